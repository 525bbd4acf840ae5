-- What a byte of a string part may bring: few store bytes. Assumes nothing.
use Prim.Native.Nat.{ℕ, zero, suc, ◌+◌, ◌%◌, ◌≤◌}
use mathlib.Core.Path.{refl}
use mathlib.Core.Bool.{Bool, true, false, cond}
use native.Mathlib.Omega.{arith}
use lib.Dec.{eqb, ltb, leb}
use lib.ListN.{length}
use Rattle.rules.specs.Rfc3629.{encode}
use Rattle.meaning.specs.Letters.{ch}
use Rattle.meaning.specs.declared.Refusal.{Refusal}
use Rattle.machine.specs.Strings.{hex_of, no_digit, short_of, no_short, plain_byte, line_byte}
use Rattle.items.proofs.StringPartEscapeLaws.{encode_four}
use Rattle.arriving.specs.declared.states.Quoted.{Quoted}
use Rattle.arriving.specs.declared.states.Inner as InnerOf
use Rattle.arriving.specs.declared.states.Inner.TheVariants as Inner
use Rattle.arriving.specs.declared.states.Out.{Out}
use Rattle.arriving.specs.declared.states.Out.TheVariants.{Stops, Breaks}
use Rattle.arriving.specs.Between.Arriving.{sane_mode}
use Rattle.arriving.specs.Between.Strings.{quotes, alone, unit, in_braces, hexed, on_hex, on_brace, on_short, on_body, on_lines, on_opened}
use Rattle.arriving.specs.Between.Strings.{bad_now, closed, next_quoted}
use Rattle.arriving.proofs.Bounds.{Bounded}

-- Bounded, told by its outcome
record Few (n : ℕ) (o : Out) : Type 0 where
  holds : Bounded n o

module _ (n : ℕ) where
  either : (t : Bool) {a b : Out} → Few n a → Few n b → Few n (cond t a b)
  either true x y = x
  either false x y = y

  come : (k : Quoted) (s : InnerOf.Inner) (m : ℕ) → m ≤ 258 → Few n (quotes k s m)
  unfolding sane_mode
  come k s m l = record { holds = (refl, l) }

  stop : Few n Stops
  stop = record { holds = tt }

  break : (r : Refusal) → Few n (Breaks r)
  break r = record { holds = tt }

  gives : (k : Quoted) (s : InnerOf.Inner) (w : ℕ) → Few n (quotes k s (length (encode w)))
  gives k s w = come k s (length (encode w)) (omega (arith, encode_four w))

  alone_few : (k : Quoted) (at w : ℕ) → Few n (alone k at w)
  unfolding alone
  alone_few k at w = either (ltb w 0xD800) (gives _ _ w)
      (either (ltb w 0xDC00) (come _ _ 0 (omega arith)) (either (ltb w 0xE000) (come _ _ 0 (omega arith)) (gives _ _ w)))

  unit_few : (k : Quoted) (at w : ℕ) → Few n (unit k at w)
  unfolding unit
  unit_few k at w = either (eqb k.half 0) (alone_few k at w)
      (either (ltb w 0xDC00) (alone_few k at w) (either (ltb w 0xE000) (come _ _ 4 (omega arith)) (alone_few k at w)))

  braces_few : (k : Quoted) (at w : ℕ) → Few n (in_braces k at w)
  unfolding in_braces
  braces_few k at w = either (ltb w 0xD800) (gives _ _ w)
      (either (ltb w 0xE000) (come _ _ 0 (omega arith)) (either (leb w 0x10FFFF) (gives _ _ w) (come _ _ 0 (omega arith))))

  hexed_few : (k : Quoted) (at m w : ℕ) → Few n (hexed k at m w)
  unfolding hexed
  hexed_few k at zero w = unit_few k at w
  hexed_few k at (suc m) w = come _ _ 0 (omega arith)

  hex_few : (k : Quoted) (at m v p x : ℕ) → Few n (on_hex k at m v p x)
  unfolding on_hex
  hex_few k at m v p x = either (ltb x no_digit) (hexed_few k at m _) (break _)

  brace_few : (k : Quoted) (at v p x : ℕ) → Few n (on_brace k at v p x)
  unfolding on_brace
  brace_few k at v p x = either (ltb x no_digit) (come _ _ 0 (omega arith)) (break _)

  short_few : (k : Quoted) (p c : ℕ) → Few n (on_short k p c)
  unfolding on_short
  short_few k p c = either (ltb c no_short) (come _ _ 1 (omega arith)) (break _)

  body_few : (k : Quoted) (p b : ℕ) → Few n (on_body k p b)
  unfolding on_body
  body_few k p b = either (eqb b (ch "\\")) (come _ _ 0 (omega arith))
      (either (eqb b k.quote) (come _ _ 0 (omega arith)) (either (plain_byte b) (come _ _ 1 (omega arith)) (break _)))

  lines_few : (k : Quoted) (m held p b : ℕ) → held ≤ 1 → Few n (on_lines k m held p b)
  unfolding on_lines
  lines_few k m held p b l = either (eqb b k.quote) (either (leb 2 m) (come _ _ held (omega arith)) (come _ _ held (omega arith)))
      (either (line_byte b) (come _ _ (held + m % 4 + 1) (omega arith)) (break _))

  opened_few : (k : Quoted) (p b : ℕ) → Few n (on_opened k p b)
  unfolding on_opened
  opened_few k p b = either (eqb b (ch "\n")) (come _ _ 0 (omega arith))
      (either (eqb b (ch "\r")) (come _ _ 0 (omega arith)) (lines_few k 0 0 p b (omega arith)))

  closed_few : (k : Quoted) → Few n (closed k)
  unfolding closed
  closed_few k = either (eqb (bad_now k) 0) stop (break _)

  few : (k : Quoted) (s : InnerOf.Inner) (p b : ℕ) → Few n (next_quoted k s p b)
  unfolding next_quoted
  few k Inner.One p b = either (eqb b k.quote) (come _ _ 0 (omega arith)) (body_few k p b)
  few k Inner.Two p b = either (eqb b k.quote) (come _ _ 0 (omega arith)) stop
  few k Inner.Opened p b = opened_few k p b
  few k Inner.OpenedCr p b = either (eqb b (ch "\n")) (come _ _ 0 (omega arith)) (lines_few k 0 1 p b (omega arith))
  few k (Inner.Lines m) p b = lines_few k m 0 p b (omega arith)
  few k Inner.Body p b = body_few k p b
  few k (Inner.Escape at) p b = either (eqb b (ch "u")) (come _ _ 0 (omega arith)) (short_few k p (short_of b))
  few k (Inner.Unicode at) p b = either (eqb b (ch "{")) (come _ _ 0 (omega arith)) (hex_few k at 3 0 p (hex_of b))
  few k (Inner.Hex v m at) p b = hex_few k at m v p (hex_of b)
  few k (Inner.BraceOpen at) p b = brace_few k at 0 p (hex_of b)
  few k (Inner.Brace v at) p b = either (eqb b (ch "}")) (braces_few k at v) (brace_few k at v p (hex_of b))
  few k Inner.Done p b = closed_few k

pub quoted_bounded : (k : Quoted) (s : InnerOf.Inner) (n p b : ℕ) → Bounded n (next_quoted k s p b)
quoted_bounded k s n p b = (few n k s p b).holds
