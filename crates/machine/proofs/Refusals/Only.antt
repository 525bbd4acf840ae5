-- Binary parts, identifiers and words break with 3 only. Assumes nothing.
use Prim.Native.Nat.{ℕ, ◌+◌, ◌*◌}
use mathlib.Core.Path.{refl}
use mathlib.Core.List.{List, [], ◌∷◌, ◌++◌}
use lib.Dec.{eqb, ltb, leb}
use Rattle.meaning.specs.declared.Refusal.TheVariants.{NotGrammar}
use Rattle.machine.specs.Scan.{Out, takes, stops, breaks}
use Rattle.machine.specs.Strings
use Rattle.machine.specs.Binaries
use Rattle.machine.specs.Names
use Rattle.machine.proofs.Strings.Tests.{either}
use Rattle.machine.proofs.Refusals.Reason.{Three}

module _ {X M : Type 0} where
  abbrev pub Only : Out X M → Type 0
  Only (takes s) = Unit {0}
  Only (stops v) = Unit {0}
  Only (breaks r) = Three r

module _ (p b : ℕ) where
  -- a digit, or 3; a digit, or the end
  digit_only : (x : ℕ) (f : ℕ → Binaries.St) → Only (Binaries.on_digit x f (breaks (NotGrammar p)))
  unfolding Binaries.on_digit
  digit_only x f = either Only (ltb x 16) tt (p, refl)

  digit_stop : (x : ℕ) (f : ℕ → Binaries.St) (v : List ℕ) → Only (Binaries.on_digit x f (stops v))
  unfolding Binaries.on_digit
  digit_stop x f v = either Only (ltb x 16) tt tt

  pub binary_only : (s : Binaries.St) → Only (Binaries.scan p s b)
  unfolding Binaries.scan Binaries.on_text Binaries.on_short
  binary_only Binaries.start = either Only (eqb b 0x24) tt (p, refl)
  binary_only Binaries.dollar = either Only (eqb b 0x22) tt (either Only (eqb b 0x27) tt (digit_stop (Strings.hex_of b) (Binaries.low []) []))
  binary_only (Binaries.text q acc) =
      either Only (eqb b 0x5C) tt (either Only (eqb b q) tt (either Only (ltb b 0x20) (p, refl) (either Only (leb b 0x7E) tt (p, refl))))
  binary_only (Binaries.esc q acc) = either Only (eqb b 0x78) tt (either Only (ltb (Strings.short_of b) 256) tt (p, refl))
  binary_only (Binaries.hex q acc) = digit_only (Strings.hex_of b) (Binaries.hex_low q acc)
  binary_only (Binaries.hex_low q acc v) = digit_only (Strings.hex_of b) (λ x. Binaries.text q (acc ++ ((16 * v + x) ∷ [])))
  binary_only (Binaries.low acc v) = digit_only (Strings.hex_of b) (λ x. Binaries.pairs (acc ++ ((16 * v + x) ∷ [])))
  binary_only (Binaries.pairs acc) = either Only (eqb b 0x2E) tt (digit_stop (Strings.hex_of b) (Binaries.low acc) acc)
  binary_only (Binaries.dot acc) = digit_only (Strings.hex_of b) (Binaries.low acc)
  binary_only (Binaries.done acc) = tt

  start_only : (c : Names.Class) → Only (Names.on_start p b c)
  unfolding Names.on_start
  start_only Names.letter = tt
  start_only Names.figure = (p, refl)
  start_only Names.neither = (p, refl)

  later_only : (acc : List ℕ) (c : Names.Class) → Only (Names.on_name acc b c)
  unfolding Names.on_name
  later_only acc Names.letter = tt
  later_only acc Names.figure = tt
  later_only acc Names.neither = tt

  pub name_only : (s : Names.St) → Only (Names.scan p s b)
  unfolding Names.scan
  name_only Names.start = start_only (Names.class_of b)
  name_only (Names.name acc) = later_only acc (Names.class_of b)

  pub word_only : (w : List ℕ) → Only (Names.word_scan p w b)
  unfolding Names.word_scan
  word_only [] = tt
  word_only (c ∷ w) = either Only (eqb b c) tt (p, refl)
