-- A binary part (docs/FORMAT.md, 4), a byte at a time, from its dollar on: nothing, a quoted form, or hex pairs with
-- dots between. Its value is the bytes meant. It has no check. Assumes nothing.
use Rattle.std.specs.Prelude.{ℕ, ◌+◌, ◌*◌, cond, List, [], ◌∷◌, ◌++◌, eqb, ltb, leb}
use Rattle.meaning.specs.declared.Refusal.TheVariants.{NotGrammar}
use Rattle.meaning.specs.Letters.{ch}
use Rattle.machine.specs.Scan.{Out, takes, stops, breaks}
use Rattle.machine.specs.Strings.{hex_of, no_digit, short_of, no_short}

-- dollar: after it. text q acc: between two characters of the quoted form. esc: after a backslash. hex q acc: after
-- `\x`, and hex_low q acc v: after its first digit, of the value v. low acc v: after the first digit of a pair. pairs:
-- after a pair. dot: after a dot. done: after the closing quote.
pub data St : Type 0 where
  start : St
  dollar : St
  text : ℕ → List ℕ → St
  esc : ℕ → List ℕ → St
  hex : ℕ → List ℕ → St
  hex_low : ℕ → List ℕ → ℕ → St
  low : List ℕ → ℕ → St
  pairs : List ℕ → St
  dot : List ℕ → St
  done : List ℕ → St

-- before the dollar
abbrev pub begin : St
begin = start

-- a hexadecimal digit takes the item on; without one it is this instead
unfoldable pub on_digit : ℕ → (ℕ → St) → Out St (List ℕ) → Out St (List ℕ)
on_digit x next instead = cond (ltb x no_digit) (takes (next x)) instead

unfoldable pub on_short : ℕ → ℕ → List ℕ → ℕ → Out St (List ℕ)
on_short p q acc c = cond (ltb c no_short) (takes (text q (acc ++ (c ∷ [])))) (breaks (NotGrammar p))

-- b-unescaped and the other quote: from U+0020 to U+007E
unfoldable pub on_text : ℕ → ℕ → List ℕ → ℕ → Out St (List ℕ)
on_text p q acc b =
    cond (eqb b (ch "\\")) (takes (esc q acc))
    (cond (eqb b q) (takes (done acc))
    (cond (ltb b 0x20) (breaks (NotGrammar p))
    (cond (leb b 0x7E) (takes (text q (acc ++ (b ∷ [])))) (breaks (NotGrammar p)))))

unfoldable pub scan : ℕ → St → ℕ → Out St (List ℕ)
scan p start b = cond (eqb b (ch "$")) (takes dollar) (breaks (NotGrammar p))
scan p dollar b = cond (eqb b (ch "\"")) (takes (text b []))
    (cond (eqb b (ch "'")) (takes (text b [])) (on_digit (hex_of b) (low []) (stops [])))
scan p (text q acc) b = on_text p q acc b
scan p (esc q acc) b = cond (eqb b (ch "x")) (takes (hex q acc)) (on_short p q acc (short_of b))
scan p (hex q acc) b = on_digit (hex_of b) (hex_low q acc) (breaks (NotGrammar p))
scan p (hex_low q acc v) b = on_digit (hex_of b) (λ x. text q (acc ++ ((16 * v + x) ∷ []))) (breaks (NotGrammar p))
scan p (low acc v) b = on_digit (hex_of b) (λ x. pairs (acc ++ ((16 * v + x) ∷ []))) (breaks (NotGrammar p))
scan p (pairs acc) b = cond (eqb b (ch ".")) (takes (dot acc)) (on_digit (hex_of b) (low acc) (stops acc))
scan p (dot acc) b = on_digit (hex_of b) (low acc) (breaks (NotGrammar p))
scan p (done acc) b = stops acc
