-- Every derived text is UTF-8. Assumes nothing.
use Prim.Native.Nat.{ℕ, ◌≤◌}
use mathlib.Core.Bool.{Bool, true, false, cond}
use mathlib.Core.Logic.{inl, inr}
use mathlib.Core.List.{List, [], ◌∷◌}
use native.Mathlib.Omega.{arith}
use lib.Dec.{T, leb, leb→le, lit≤}
use Rattle.rules.specs.Rfc3629.{Char, Octets}
use Rattle.rules.proofs.Characters.{join, one}
use Rattle.rules.proofs.Numbers.{encoded}
use lib.IntN.{ℤ}
use Rattle.meaning.specs.declared.Number.{Number as NumberMeant}
use Rattle.meaning.specs.declared.Date.{Date as DateMeant}
use Rattle.meaning.specs.declared.Time.{Time as TimeMeant}
use Rattle.meaning.specs.Meaning.{Meaning}
use Rattle.grammar.specs.Characters.{Range, ◌to◌, Of, Among, Ascii, Many, Digit, Hexdig, Digits, Decimal, Hexadecimal}
use Rattle.grammar.specs.Comments.{CBeginLine, CLine, Stars, CInner, CBlock, Blank, LineEnd, Ws, Last}
use Rattle.grammar.specs.Numbers.{Sign, Int, Frac0, Frac1, E, Exp, Dec, X, Unsigned, Number}
use Rattle.grammar.specs.Strings.{Quote, double, single, mark as mark_of, other, three, Chars, Quoted, Short, Escape, UpToTwo, MChar, Newline}
use Rattle.grammar.specs.Strings.{StringPart, Concat, String}
use Rattle.grammar.specs.Times.{Fraction, TimeSecfrac, TimeHour, TimeMinute, LocalTimeText, LocalDateText, Separator, Zulu, PlusMinus, TimeOffset}
use Rattle.grammar.specs.Times.{TimeValue}
use Rattle.grammar.specs.Binary.{BEscape, BPart, BDirect, BValue, Binary}
use Rattle.grammar.specs.Keys.{Identifier, Key}
use Rattle.grammar.specs.Values.{Inside, Closes, Value, Rest, After, Item, Loose}

-- an ASCII byte before UTF-8
pub ascii : {b : ℕ} {a : List ℕ} → b ≤ 0x7F → Octets a → Octets (b ∷ a)
ascii {b} {a} h x = Octets.more {c = b ∷ []} {t = a} (Char.utf8_1 {a = b} (omega arith)) x

-- a literal of ASCII characters
abbrev pub low : List ℕ → Bool
low [] = true
low (b ∷ s) = cond (leb b 0x7F) (low s) false

pub both : (x y : Bool) → T (cond x y false) → T x × T y
both true y h = (tt, h)
both false y h = absurd h

pub literal : (s : List ℕ) → T (low s) → Octets s
literal [] h = Octets.none
literal (b ∷ s) h = let w = both (leb b 0x7F) (low s) h in ascii (leb→le b 0x7F w.0) (literal s w.1)

-- ---- Characters

pub among : {r : List Range} {c : List ℕ} → Among r c → Octets c
among (Among.character {n = n} s h) = one (encoded n s)

-- ranges below U+0080
abbrev pub under : List Range → Bool
under [] = true
under ((lo to hi) ∷ r) = cond (leb hi 0x7F) (under r) false

pub below : (r : List Range) → T (under r) → (n : ℕ) → Of r n → n ≤ 0x7F
below [] h n x = absurd x
below ((lo to hi) ∷ r) h n (inl x) = let w = both (leb hi 0x7F) (under r) h in omega (arith, leb→le hi 0x7F w.0)
below ((lo to hi) ∷ r) h n (inr x) = let w = both (leb hi 0x7F) (under r) h in below r w.1 n x

pub ascii_octets : {r : List Range} {c : List ℕ} → T (under r) → Ascii r c → Octets c
ascii_octets {r} h (Ascii.byte {b = b} x) = ascii (below r h b x) Octets.none

pub many : {X : List ℕ → Type 0} {a : List ℕ} → ((c : List ℕ) → X c → Octets c) → Many X a → Octets a
many f Many.none = Octets.none
many f (Many.more x m) = join (f _ x) (many f m)

digit : {b x : ℕ} → Digit b x → b ≤ 0x7F
digit (Digit.digit i) = omega arith

hexdig : {b x : ℕ} → Hexdig b x → b ≤ 0x7F
hexdig (Hexdig.decimal i) = omega arith
hexdig (Hexdig.upper i) = omega arith
hexdig (Hexdig.lower i) = omega arith

digits : {D : ℕ → ℕ → Type 0} {base n v w : ℕ} {a : List ℕ} → ((b x : ℕ) → D b x → b ≤ 0x7F) → Digits D base n v a w → Octets a
digits f Digits.over = Octets.none
digits f (Digits.next d r) = ascii (f _ _ d) (digits f r)

pub decimal : {n v w : ℕ} {a : List ℕ} → Decimal n v a w → Octets a
decimal d = digits (λ b x. digit) d

pub hexadecimal : {n w : ℕ} {a : List ℕ} → Hexadecimal n a w → Octets a
hexadecimal d = digits (λ b x. hexdig) d

-- ---- Comments

line : {a : List ℕ} → CLine a → Octets a
line (CLine.c_line CBeginLine.hash m) = ascii (lit≤ tt) (many (λ c. among) m)
line (CLine.c_line CBeginLine.slashes m) = ascii (lit≤ tt) (ascii (lit≤ tt) (many (λ c. among) m))

stars : {a : List ℕ} → Stars a → Octets a
stars Stars.one = ascii (lit≤ tt) Octets.none
stars (Stars.more s) = ascii (lit≤ tt) (stars s)

inner : {a : List ℕ} → CInner a → Octets a
inner (CInner.no_star c) = among c
inner (CInner.stars s c) = join (stars s) (among c)

block : {a : List ℕ} → CBlock a → Octets a
block (CBlock.c_block m s) = ascii (lit≤ tt) (ascii (lit≤ tt) (join (many (λ c. inner) m) (join (stars s) (ascii (lit≤ tt) Octets.none))))

blank : {b : ℕ} → Blank b → b ≤ 0x7F
blank Blank.space = lit≤ tt
blank Blank.tab = lit≤ tt
blank Blank.line_feed = lit≤ tt
blank Blank.carriage_return = lit≤ tt

line_end_lem : {b : ℕ} → LineEnd b → b ≤ 0x7F
line_end_lem LineEnd.line_feed = lit≤ tt
line_end_lem LineEnd.carriage_return = lit≤ tt

pub ws : {a : List ℕ} → Ws a → Octets a
ws Ws.none = Octets.none
ws (Ws.blank b w) = ascii (blank b) (ws w)
ws (Ws.line c e w) = join (line c) (ascii (line_end_lem e) (ws w))
ws (Ws.block c w) = join (block c) (ws w)

pub last : {a : List ℕ} → Last a → Octets a
last (Last.ended w) = ws w
last (Last.unended w c) = join (ws w) (line c)

-- ---- Numbers

sign : {a : List ℕ} {g : Bool} → Sign a g → Octets a
sign Sign.unsigned = Octets.none
sign Sign.plus = literal _ tt
sign Sign.minus = literal _ tt

int : {a : List ℕ} {v : ℕ} → Int a v → Octets a
int Int.zero_digit = literal _ tt
int (Int.positive i d) = ascii (omega arith) (decimal d)

frac0 : {v w n : ℕ} {a : List ℕ} → Frac0 v a w n → Octets a
frac0 Frac0.absent = Octets.none
frac0 (Frac0.given d) = ascii (lit≤ tt) (decimal d)

frac1 : {w n : ℕ} {a : List ℕ} → Frac1 a w n → Octets a
frac1 (Frac1.given d) = ascii (lit≤ tt) (decimal d)

e : {b : ℕ} → E b → b ≤ 0x7F
e E.small = lit≤ tt
e E.capital = lit≤ tt

exp : {a : List ℕ} {up dn : ℕ} → Exp a up dn → Octets a
exp Exp.absent = Octets.none
exp (Exp.given b s d) = ascii (e b) (join (sign s) (decimal d))

dec : {a : List ℕ} {m up dn : ℕ} → Dec a m up dn → Octets a
dec (Dec.whole i f x) = join (int i) (join (frac0 f) (exp x))
dec (Dec.part f x) = join (frac1 f) (exp x)

x_letter : {b : ℕ} → X b → b ≤ 0x7F
x_letter X.small = lit≤ tt
x_letter X.capital = lit≤ tt

module _ {k : Bool} where
  unsigned : {g : Bool} {a : List ℕ} {m : NumberMeant} → Unsigned k g a m → Octets a
  unsigned Unsigned.nan = literal _ tt
  unsigned Unsigned.inf = literal _ tt
  unsigned (Unsigned.hex x d h f) = ascii (lit≤ tt) (ascii (x_letter x) (hexadecimal d))
  unsigned (Unsigned.dec d f) = dec d

  pub number_octets : {a : List ℕ} {m : NumberMeant} → Number k a m → Octets a
  number_octets (Number.number s u) = join (sign s) (unsigned u)

-- ---- Strings

mark : (q : Quote) → mark_of q ≤ 0x7F
mark double = lit≤ tt
mark single = lit≤ tt

pub three_quotes : (q : Quote) → Octets (three q)
three_quotes q = ascii (mark q) (ascii (mark q) (ascii (mark q) Octets.none))

chars : {P : List ℕ → Type 0} {E : List ℕ → List ℕ → Type 0} {q : Quote} {a u : List ℕ} → ((c : List ℕ) → P c → Octets c) → ((c v : List ℕ) → E c v → Octets c)
    → Chars P E q a u → Octets a
chars f g Chars.none = Octets.none
chars f g (Chars.plain c r) = join (f _ c) (chars f g r)
chars f g (Chars.escaped x r) = ascii (lit≤ tt) (join (g _ _ x) (chars f g r))
chars {q = q} f g (Chars.other_quote r) = ascii (mark (other q)) (chars f g r)

quoted : {P : List ℕ → Type 0} {E : List ℕ → List ℕ → Type 0} {a u : List ℕ} → ((c : List ℕ) → P c → Octets c) → ((c v : List ℕ) → E c v → Octets c)
    → Quoted P E a u → Octets a
quoted f g (Quoted.quoted q r) = ascii (mark q) (join (chars f g r) (ascii (mark q) Octets.none))

short : {b c : ℕ} → Short b c → b ≤ 0x7F
short Short.double_quote = lit≤ tt
short Short.single_quote = lit≤ tt
short Short.reverse_solidus = lit≤ tt
short Short.solidus = lit≤ tt
short Short.nul = lit≤ tt
short Short.backspace = lit≤ tt
short Short.form_feed = lit≤ tt
short Short.line_feed = lit≤ tt
short Short.carriage_return = lit≤ tt
short Short.tab = lit≤ tt
short Short.vtab = lit≤ tt

pub escape_octets : {k : Bool} {a u : List ℕ} → Escape k a u → Octets a
escape_octets (Escape.short s) = ascii (short s) Octets.none
escape_octets (Escape.unit d h) = ascii (lit≤ tt) (hexadecimal d)
escape_octets (Escape.pair c i d j) = ascii (lit≤ tt) (join (hexadecimal c) (ascii (lit≤ tt) (ascii (lit≤ tt) (hexadecimal d))))
escape_octets (Escape.braced d h) = ascii (lit≤ tt) (ascii (lit≤ tt) (join (hexadecimal d) (ascii (lit≤ tt) Octets.none)))

up_to_two : {q : Quote} {a : List ℕ} → UpToTwo q a → Octets a
up_to_two UpToTwo.no_quote = Octets.none
up_to_two {q} UpToTwo.one_quote = ascii (mark q) Octets.none
up_to_two {q} UpToTwo.two_quotes = ascii (mark q) (ascii (mark q) Octets.none)

m_char : {q : Quote} {a : List ℕ} → MChar q a → Octets a
m_char (MChar.m_char s c) = join (up_to_two s) (among c)

newline : {a : List ℕ} → Newline a → Octets a
newline Newline.line_feed = literal _ tt
newline Newline.return_line_feed = literal _ tt

pub m_chars : {q : Quote} {a : List ℕ} → Many (MChar q) a → Octets a
m_chars m = many (λ c. m_char) m

string_part : {k : Bool} {a u : List ℕ} → StringPart k a u → Octets a
string_part (StringPart.one_line r) = quoted (λ c. among) (λ c v. escape_octets) r
string_part (StringPart.multiline q m h) = join (three_quotes q) (join (m_chars m) (three_quotes q))
string_part (StringPart.trimmed q n m) = join (three_quotes q) (join (newline n) (join (m_chars m) (three_quotes q)))

concat : {P : List ℕ → List ℕ → Type 0} {a u : List ℕ} → ((c v : List ℕ) → P c v → Octets c) → Concat P a u → Octets a
concat f (Concat.part p) = f _ _ p
concat f (Concat.plus p v w r) = join (f _ _ p) (join (ws v) (ascii (lit≤ tt) (join (ws w) (concat f r))))

pub string_octets : {k : Bool} {a u : List ℕ} → String k a u → Octets a
string_octets s = concat (λ c v. string_part) s

-- ---- Date / Time

fraction : {n v w : ℕ} {a : List ℕ} → Fraction n v a w → Octets a
fraction Fraction.over = Octets.none
fraction (Fraction.counts d r) = ascii (digit d) (fraction r)
fraction (Fraction.cut d r) = ascii (digit d) (fraction r)

secfrac : {n : ℕ} {a : List ℕ} → TimeSecfrac a n → Octets a
secfrac TimeSecfrac.absent = Octets.none
secfrac (TimeSecfrac.given f) = ascii (lit≤ tt) (fraction f)

separator : {b : ℕ} → Separator b → b ≤ 0x7F
separator Separator.letter = lit≤ tt
separator Separator.small_letter = lit≤ tt
separator Separator.space = lit≤ tt

zulu : {b : ℕ} → Zulu b → b ≤ 0x7F
zulu Zulu.letter = lit≤ tt
zulu Zulu.small_letter = lit≤ tt

plus_minus : {b : ℕ} {g : Bool} → PlusMinus b g → b ≤ 0x7F
plus_minus PlusMinus.plus = lit≤ tt
plus_minus PlusMinus.minus = lit≤ tt

module _ {k : Bool} where
  hour : {a : List ℕ} {h : ℕ} → TimeHour k a h → Octets a
  hour (TimeHour.hour d h) = decimal d

  minute : {a : List ℕ} {m : ℕ} → TimeMinute k a m → Octets a
  minute (TimeMinute.sixtieth d h) = decimal d

  local_time : {a : List ℕ} {n : ℕ} → LocalTimeText k a n → Octets a
  local_time (LocalTimeText.local_time h m s f) = join (hour h) (ascii (lit≤ tt) (join (minute m) (ascii (lit≤ tt) (join (minute s) (secfrac f)))))

  local_date : {a : List ℕ} {d : DateMeant} → LocalDateText k a d → Octets a
  local_date (LocalDateText.local_date y m d h) = join (decimal y) (ascii (lit≤ tt) (join (decimal m) (ascii (lit≤ tt) (decimal d))))

  offset : {a : List ℕ} {o : ℤ} → TimeOffset k a o → Octets a
  offset (TimeOffset.zulu z) = ascii (zulu z) Octets.none
  offset (TimeOffset.numoffset x h m) = ascii (plus_minus x) (join (hour h) (ascii (lit≤ tt) (minute m)))

  pub time_octets : {a : List ℕ} {t : TimeMeant} → TimeValue k a t → Octets a
  time_octets (TimeValue.local_date d) = local_date d
  time_octets (TimeValue.local_time t) = local_time t
  time_octets (TimeValue.local_date_time d s t) = join (local_date d) (ascii (separator s) (local_time t))
  time_octets (TimeValue.offset_date_time d s t o) = join (local_date d) (ascii (separator s) (join (local_time t) (offset o)))

-- ---- Binary Data

b_escape : {a u : List ℕ} → BEscape a u → Octets a
b_escape (BEscape.short s) = ascii (short s) Octets.none
b_escape (BEscape.byte d) = ascii (lit≤ tt) (hexadecimal d)

b_part : {a u : List ℕ} → BPart a u → Octets a
b_part (BPart.last d) = hexadecimal d
b_part (BPart.more d r) = join (hexadecimal d) (b_part r)

b_direct : {a u : List ℕ} → BDirect a u → Octets a
b_direct (BDirect.part p) = b_part p
b_direct (BDirect.dotted p r) = join (b_part p) (ascii (lit≤ tt) (b_direct r))

b_value : {a u : List ℕ} → BValue a u → Octets a
b_value BValue.empty = literal _ tt
b_value (BValue.string s) = ascii (lit≤ tt) (quoted (λ c. ascii_octets tt) (λ c v. b_escape) s)
b_value (BValue.direct d) = ascii (lit≤ tt) (b_direct d)

pub binary_octets : {a u : List ℕ} → Binary a u → Octets a
binary_octets b = concat (λ c v. b_value) b

-- ---- Unquoted Object Keys

pub identifier_octets : {a : List ℕ} → Identifier a → Octets a
identifier_octets (Identifier.identifier c m) = join (ascii_octets tt c) (many (λ a. ascii_octets tt) m)

pub key_octets : {k : Bool} {a u : List ℕ} → Key k a u → Octets a
key_octets (Key.string s) = string_octets s
key_octets (Key.identifier i) = identifier_octets i

-- ---- Values and the text

closes : {x : Inside} {b : ℕ} → Closes x b → b ≤ 0x7F
closes Closes.bracket = lit≤ tt
closes Closes.brace = lit≤ tt

pub value_octets : {k : Bool} {d : ℕ} {a : List ℕ} {m : Meaning} → Value k d a m → Octets a
value_octets v =
    elim v as (λ d a m v. Octets a) (λ d x a y r. Octets a) (λ d x a y r. Octets a) (λ d x a y r. Octets a) [
      | Value.null_word ↦ literal _ tt
      | Value.true_word ↦ literal _ tt
      | Value.false_word ↦ literal _ tt
      | Value.number n ↦ number_octets n
      | Value.string s ↦ string_octets s
      | Value.binary b ↦ binary_octets b
      | Value.time_value t ↦ time_octets t
      | Value.array r (x → h) ↦ ascii (lit≤ tt) h
      | Value.object r (x → h) ↦ ascii (lit≤ tt) h
      | Rest.close w c ↦ join (ws w) (ascii (closes c) Octets.none)
      | Rest.item w (i → h) (r → g) ↦ join (ws w) (join h g)
      | After.end w c ↦ join (ws w) (ascii (closes c) Octets.none)
      | After.comma w (r → h) ↦ join (ws w) (ascii (lit≤ tt) h)
      | Item.element (v → h) ↦ h
      | Item.member c v w (m → h) ↦ join (key_octets c) (join (ws v) (ascii (lit≤ tt) (join (ws w) h)))
    ]

pub text_octets : {k : Bool} {t : List ℕ} {m : Meaning} → Loose k t m → Octets t
text_octets (Loose.text w v l h) = join (ws w) (join (value_octets v) (last l))
