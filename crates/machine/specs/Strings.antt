-- A string part (docs/FORMAT.md, 3), a byte at a time, from its opening quote to its closing one. Its value is the
-- bytes meant. A byte that no rule allows is NotGrammar at its place; a part that has closed with a bad escape in it is
-- BadEscape at the backslash of its first. The bytes of a character above U+007F are taken one by one: the text has
-- been found to be UTF-8 before. Assumes nothing.
use Rattle.std.specs.Prelude.{ℕ, zero, suc, ◌+◌, ◌*◌, ◌-◌, Bool, true, false, cond, List, [], ◌∷◌, ◌++◌, eqb, ltb, leb}
use Rattle.std.specs.Prelude.{replicate}
use Rattle.rules.specs.Rfc3629.{encode}
use Rattle.meaning.specs.declared.Refusal.TheVariants.{NotGrammar, BadEscape}
use Rattle.meaning.specs.Letters.{letters, ch}
use Rattle.grammar.specs.Strings.{joined}
use Rattle.machine.specs.Scan.{Out, takes, stops, breaks, over}

-- no hexadecimal digit
abbrev pub no_digit : ℕ
no_digit = 16

-- the value of a hexadecimal digit, or no_digit
unfoldable pub hex_of : ℕ → ℕ
hex_of b =
    cond (ltb b (ch "0")) no_digit
    (cond (leb b (ch "9")) (b - ch "0")
    (cond (ltb b (ch "A")) no_digit
    (cond (leb b (ch "F")) (b - ch "A" + 10)
    (cond (ltb b (ch "a")) no_digit
    (cond (leb b (ch "f")) (b - ch "a" + 10) no_digit)))))

-- no short escape
abbrev pub no_short : ℕ
no_short = 256

-- the character of a short escape, or no_short
unfoldable pub short_of : ℕ → ℕ
short_of b =
    cond (eqb b (ch "\"")) 0x22
    (cond (eqb b (ch "'")) 0x27
    (cond (eqb b (ch "\\")) 0x5C
    (cond (eqb b (ch "/")) 0x2F
    (cond (eqb b (ch "0")) 0x00
    (cond (eqb b (ch "b")) 0x08
    (cond (eqb b (ch "f")) 0x0C
    (cond (eqb b (ch "n")) 0x0A
    (cond (eqb b (ch "r")) 0x0D
    (cond (eqb b (ch "t")) 0x09
    (cond (eqb b (ch "v")) 0x0B no_short))))))))))

-- the backslash of the first bad escape, if there is one
pub data Bad : Type 0 where
  fine : Bad
  spoilt : ℕ → Bad

abbrev pub first : Bad → ℕ → Bad
first fine at = spoilt at
first (spoilt b) at = spoilt b

-- a high surrogate that waits for its low one: its backslash, and its number
pub data Half : Type 0 where
  whole : Half
  half : ℕ → ℕ → Half

-- quote: the opening quote. acc: the bytes meant so far.
pub record Ctx : Type 0 where
  pub quote : ℕ
  pub bad : Bad
  pub high : Half
  pub acc : List ℕ

abbrev pub mk : ℕ → Bad → Half → List ℕ → Ctx
mk q b h a = record { quote = q; bad = b; high = h; acc = a }

-- a high surrogate that waits no longer is a bad escape
abbrev pub lost : Bad → Half → Bad
lost b whole = b
lost b (half at h) = first b at

abbrev pub bad_now : Ctx → Bad
bad_now k = lost k.bad k.high

-- the bytes of a character come
abbrev pub give : Ctx → List ℕ → Ctx
give k bs = mk k.quote (bad_now k) whole (k.acc ++ bs)

-- the escape at this backslash is bad
abbrev pub blame : Ctx → ℕ → Ctx
blame k at = mk k.quote (first (bad_now k) at) whole k.acc

-- the escape at this backslash is a high surrogate
abbrev pub wait : Ctx → ℕ → ℕ → Ctx
wait k at h = mk k.quote (bad_now k) (half at h) k.acc

-- one, two: after so many quotes. lines0, lines_cr: after three, and after a CR behind them. lines q n acc: in a
-- multiline part, after n quotes more. body: between two characters. esc, uni: after a backslash at that place, and its
-- `u`. hex k at n v: n more digits after the next one, v so far. brace0, brace: in braces, before the first digit and
-- after one. done: after the closing quote.
pub data St : Type 0 where
  start : St
  one : ℕ → St
  two : ℕ → St
  lines0 : ℕ → St
  lines_cr : ℕ → St
  lines : ℕ → ℕ → List ℕ → St
  body : Ctx → St
  esc : Ctx → ℕ → St
  uni : Ctx → ℕ → St
  hex : Ctx → ℕ → ℕ → ℕ → St
  brace0 : Ctx → ℕ → St
  brace : Ctx → ℕ → ℕ → St
  done : Ctx → St

-- before the opening quote
abbrev pub begin : St
begin = start

-- a unit of its own
unfoldable pub alone : Ctx → ℕ → ℕ → Ctx
alone k at w =
    cond (ltb w 0xD800) (give k (encode w))
    (cond (ltb w 0xDC00) (wait k at w)
    (cond (ltb w 0xE000) (blame k at) (give k (encode w))))

-- the unit of the escape at this backslash: the low half of a pair, or a unit of its own
unfoldable pub unit : Ctx → ℕ → ℕ → Half → Ctx
unit k at w whole = alone k at w
unit k at w (half from h) =
    cond (ltb w 0xDC00) (alone k at w)
    (cond (ltb w 0xE000) (mk k.quote k.bad whole (k.acc ++ encode (joined h w))) (alone k at w))

-- a character in braces
unfoldable pub in_braces : Ctx → ℕ → ℕ → Ctx
in_braces k at w =
    cond (ltb w 0xD800) (give k (encode w))
    (cond (ltb w 0xE000) (blame k at)
    (cond (leb w 0x10FFFF) (give k (encode w)) (blame k at)))

unfoldable pub hexed : Ctx → ℕ → ℕ → ℕ → St
hexed k at zero w = body (unit k at w k.high)
hexed k at (suc n) w = hex k at n w

unfoldable pub on_hex : ℕ → Ctx → ℕ → ℕ → ℕ → ℕ → Out St (List ℕ)
on_hex p k at n v x = cond (ltb x no_digit) (takes (hexed k at n (16 * v + x))) (breaks (NotGrammar p))

unfoldable pub on_brace : ℕ → Ctx → ℕ → ℕ → ℕ → Out St (List ℕ)
on_brace p k at v x = cond (ltb x no_digit) (takes (brace k at (16 * v + x))) (breaks (NotGrammar p))

unfoldable pub on_short : ℕ → Ctx → ℕ → Out St (List ℕ)
on_short p k c = cond (ltb c no_short) (takes (body (give k (encode c)))) (breaks (NotGrammar p))

-- a plain byte of a string: from U+0020 up
unfoldable pub plain_byte : ℕ → Bool
plain_byte b = cond (ltb b 0x20) false (ltb b over)

unfoldable pub on_body : ℕ → Ctx → ℕ → Out St (List ℕ)
on_body p k b =
    cond (eqb b (ch "\\")) (takes (esc k p))
    (cond (eqb b k.quote) (takes (done k))
    (cond (plain_byte b) (takes (body (give k (b ∷ [])))) (breaks (NotGrammar p))))

-- tab, LF, CR, and all from U+0020 up
unfoldable pub line_byte : ℕ → Bool
line_byte b = cond (ltb b 0x20) (cond (eqb b (ch "\t")) true (cond (eqb b (ch "\n")) true (eqb b (ch "\r"))))
    (ltb b over)

-- the quotes before a byte that is none are the part's own
unfoldable pub on_lines : ℕ → ℕ → ℕ → List ℕ → ℕ → Out St (List ℕ)
on_lines p q n acc b =
    cond (eqb b q) (takes (cond (eqb n 2) (done (mk q fine whole acc)) (lines q (suc n) acc)))
    (cond (line_byte b) (takes (lines q 0 (acc ++ (replicate n q ++ (b ∷ []))))) (breaks (NotGrammar p)))

-- 4 is given for the first bad escape once the part has closed
abbrev pub close : List ℕ → Bad → Out St (List ℕ)
close acc fine = stops acc
close acc (spoilt at) = breaks (BadEscape at)

unfoldable pub scan : ℕ → St → ℕ → Out St (List ℕ)
scan p start b = cond (eqb b (ch "\"")) (takes (one b)) (cond (eqb b (ch "'")) (takes (one b)) (breaks (NotGrammar p)))
scan p (one q) b = cond (eqb b q) (takes (two q)) (on_body p (mk q fine whole []) b)
scan p (two q) b = cond (eqb b q) (takes (lines0 q)) (stops [])
scan p (lines0 q) b = cond (eqb b (ch "\n")) (takes (lines q 0 []))
    (cond (eqb b (ch "\r")) (takes (lines_cr q)) (on_lines p q 0 [] b))
scan p (lines_cr q) b = cond (eqb b (ch "\n")) (takes (lines q 0 [])) (on_lines p q 0 (letters "\r") b)
scan p (lines q n acc) b = on_lines p q n acc b
scan p (body k) b = on_body p k b
scan p (esc k at) b = cond (eqb b (ch "u")) (takes (uni k at)) (on_short p k (short_of b))
scan p (uni k at) b = cond (eqb b (ch "{")) (takes (brace0 k at)) (on_hex p k at 3 0 (hex_of b))
scan p (hex k at n v) b = on_hex p k at n v (hex_of b)
scan p (brace0 k at) b = on_brace p k at 0 (hex_of b)
scan p (brace k at v) b = cond (eqb b (ch "}")) (takes (body (in_braces k at v))) (on_brace p k at v (hex_of b))
scan p (done k) b = close k.acc (bad_now k)
