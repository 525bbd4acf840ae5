-- With the checks on, every derived meaning is good. Assumes nothing.
use Prim.Native.Nat.{ℕ, zero, suc, ◌+◌, ◌*◌, ◌≤◌, ◌<◌, ◌^◌}
use mathlib.Core.Path.{◌≡◌, refl, sym, ap, ◌∙◌}
use mathlib.Core.Bool.{Bool, true, false, cond}
use mathlib.Core.Logic.{inr}
use mathlib.Core.List.{List, [], ◌∷◌, ◌++◌}
use native.Mathlib.Nat.{mul_assoc, mul_comm, mul-one, mul-suc, suc-mul, pow-zero, pow-suc, pow-succ', mul-le-mul_right}
use native.Mathlib.Omega.{arith}
use lib.Dec.{T, leb, lit≤, lit<}
use lib.IntN.{ℤ, pos, neg_ℤ, nat_abs}
use Rattle.rules.specs.Rfc3629.{In, Octets, Scalar}
use Rattle.rules.proofs.Characters.{join, one}
use Rattle.rules.proofs.Numbers.{encoded}
use Rattle.meaning.specs.declared.Number.{Number as NumberMeant}
use Rattle.meaning.specs.declared.Date.{Date as DateMeant}
use Rattle.meaning.specs.declared.Time.{Time as TimeMeant}
use Rattle.meaning.specs.Meaning.{Meaning, Meanings, Members}
use Rattle.meaning.specs.Limits.{depth_limit, day, offset_limit}
use Rattle.meaning.specs.Good.{GoodFinite, GoodNumber, GoodDate, GoodTime, Bytes, GoodParts, GoodElements, GoodMembers, most, depth, elements_depth}
use Rattle.meaning.specs.Good.{members_depth, Good}
use Rattle.grammar.specs.Checks.{Room}
use Rattle.grammar.specs.Characters.{Range, Among, Ascii, Digit, Hexdig, Digits, Hexadecimal}
use Rattle.grammar.specs.Numbers.{Finite, Unsigned, Number}
use Rattle.grammar.specs.Strings.{Quote, double, single, mark, other, Chars, Quoted, Short, joined, Escape, unescaped, StringPart, Concat, String}
use Rattle.grammar.specs.Times.{Fraction, TimeSecfrac, TimeHour, TimeMinute, LocalTimeText, LocalDateText, signed, TimeOffset, TimeValue}
use Rattle.grammar.specs.Binary.{BEscape, b_unescaped, BPart, BDirect, BValue, Binary}
use Rattle.grammar.specs.Keys.{Key}
use Rattle.grammar.specs.Values.{Inside, elements, members, Value, Rest, After, Item, Loose, Text}
use Rattle.grammar.proofs.Utf8.{ascii, among, under, below, m_chars, identifier_octets}

-- ---- how large digits can be

hex_value : (b x : ℕ) → Hexdig b x → x < 16
hex_value b x (Hexdig.decimal i) = omega arith
hex_value b x (Hexdig.upper i) = omega arith
hex_value b x (Hexdig.lower i) = omega arith

digit_value : (b x : ℕ) → Digit b x → x < 10
digit_value b x (Digit.digit i) = omega arith

-- one more digit x after the value v, before n more
one_more : (base v x n w : ℕ) → x < base → w < suc (base * v + x) * base ^ n → w < suc v * base ^ suc n
one_more base v x n w h l =
    let e : suc v * base ^ suc n ≡ base * suc v * base ^ n = ap (λ (p : ℕ). suc v * p) (pow-succ' base n) ∙ sym (mul_assoc (suc v) base (base ^ n))
    ∙ ap (λ (p : ℕ). p * base ^ n) (mul_comm (suc v) base) in
    let g : suc (base * v + x) ≤ base * suc v = omega (arith, mul-suc base v) in
    omega (arith, mul-le-mul_right (base ^ n) g, e)

pub digits_below : {D : ℕ → ℕ → Type 0} {base n v w : ℕ} {a : List ℕ} → ((b x : ℕ) → D b x → x < base) → Digits D base n v a w → w < suc v * base ^ n
digits_below {base = base} {v = v} f Digits.over = omega (arith, pow-zero base, mul-one (suc v), ap (λ (p : ℕ). suc v * p) (pow-zero base))
digits_below {base = base} {v = v} f (Digits.next {n = n} {b = b} {x = x} {w = w} d r) = one_more base v x n w (f b x d) (digits_below f r)

ten_positive : (n : ℕ) → 0 < 10 ^ n
ten_positive zero = lit< tt
ten_positive (suc n) = omega (arith, pow-suc 10 n, ten_positive n)

pub hex_below : {n w : ℕ} {a : List ℕ} → Hexadecimal n a w → w < 1 * 16 ^ n
hex_below d = digits_below hex_value d

pub fraction_below : {n v w : ℕ} {a : List ℕ} → Fraction n v a w → w < suc v * 10 ^ n
fraction_below {v = v} (Fraction.over {n = n}) = omega (arith, suc-mul v (10 ^ n), ten_positive n)
fraction_below {v = v} (Fraction.counts {n = n} {b = b} {x = x} {w = w} d r) = one_more 10 v x n w (digit_value b x d) (fraction_below r)
fraction_below (Fraction.cut d r) = fraction_below r

-- ---- Numbers

finite : {g : Bool} {m up dn : ℕ} {n : NumberMeant} → Finite true g m up dn n → GoodNumber n
finite (Finite.nought e) = GoodFinite.nought
finite (Finite.whole e p l h) = GoodFinite.nonzero l p h
finite (Finite.part e p l h) = GoodFinite.nonzero l p h

unsigned : {g : Bool} {a : List ℕ} {n : NumberMeant} → Unsigned true g a n → GoodNumber n
unsigned Unsigned.nan = tt
unsigned Unsigned.inf = tt
unsigned (Unsigned.hex x d h f) = finite f
unsigned (Unsigned.dec d f) = finite f

pub number_good : {a : List ℕ} {n : NumberMeant} → Number true a n → GoodNumber n
number_good (Number.number s u) = unsigned u

-- ---- Strings

mark_low : (q : Quote) → mark q ≤ 0x7F
mark_low double = lit≤ tt
mark_low single = lit≤ tt

pub short_low : {b c : ℕ} → Short b c → c ≤ 0x7F
short_low Short.double_quote = lit≤ tt
short_low Short.single_quote = lit≤ tt
short_low Short.reverse_solidus = lit≤ tt
short_low Short.solidus = lit≤ tt
short_low Short.nul = lit≤ tt
short_low Short.backspace = lit≤ tt
short_low Short.form_feed = lit≤ tt
short_low Short.line_feed = lit≤ tt
short_low Short.carriage_return = lit≤ tt
short_low Short.tab = lit≤ tt
short_low Short.vtab = lit≤ tt

-- a pair of surrogates is a character above them
pair_scalar : (high low : ℕ) → In 0xD800 0xDBFF high → In 0xDC00 0xDFFF low → Scalar (joined high low)
pair_scalar high low i j = record { top = omega arith; whole = inr (omega arith) }

pub escape_good : {a u : List ℕ} → Escape true a u → Octets u
escape_good (Escape.short s) = ascii (short_low s) Octets.none
escape_good (Escape.unit {n = n} d h) = one (encoded n h)
escape_good (Escape.pair {high = high} {low = low} c i d j) = one (encoded (joined high low) (pair_scalar high low i j))
escape_good (Escape.braced {n = n} d h) = one (encoded n h)

chars : {P : List ℕ → Type 0} {E : List ℕ → List ℕ → Type 0} {q : Quote} {a u : List ℕ} → ((c : List ℕ) → P c → Octets c) → ((c v : List ℕ) → E c v → Octets v)
    → Chars P E q a u → Octets u
chars f g Chars.none = Octets.none
chars f g (Chars.plain c r) = join (f _ c) (chars f g r)
chars f g (Chars.escaped x r) = join (g _ _ x) (chars f g r)
chars {q = q} f g (Chars.other_quote r) = ascii (mark_low (other q)) (chars f g r)

quoted : {a u : List ℕ} → Quoted (Among unescaped) (Escape true) a u → Octets u
quoted (Quoted.quoted q r) = chars (λ c. among) (λ c v. escape_good) r

pub part_good : {a u : List ℕ} → StringPart true a u → Octets u
part_good (StringPart.one_line r) = quoted r
part_good (StringPart.multiline q m h) = m_chars m
part_good (StringPart.trimmed q n m) = m_chars m

pub string_good : {a u : List ℕ} → String true a u → Octets u
string_good (Concat.part p) = part_good p
string_good (Concat.plus p v w r) = join (part_good p) (string_good r)

-- ---- Date / Time

secfrac : {a : List ℕ} {n : ℕ} → TimeSecfrac a n → n < 10 ^ 9
secfrac TimeSecfrac.absent = lit< tt
secfrac (TimeSecfrac.given f) = omega (arith, fraction_below f)

pub clock_good : {a : List ℕ} {n : ℕ} → LocalTimeText true a n → n < day
clock_good (LocalTimeText.local_time (TimeHour.hour a h) (TimeMinute.sixtieth b m) (TimeMinute.sixtieth c s) f) = omega (arith, secfrac f)

pub date_good : {a : List ℕ} {d : DateMeant} → LocalDateText true a d → GoodDate d
date_good (LocalDateText.local_date y m d h) = h

minus_size : (n : ℕ) → nat_abs (neg_ℤ (pos n)) ≡ n
minus_size zero = refl
minus_size (suc n) = refl

signed_size : (g : Bool) (n : ℕ) → nat_abs (signed g n) ≡ n
signed_size false n = refl
signed_size true n = minus_size n

pub offset_good : {a : List ℕ} {o : ℤ} → TimeOffset true a o → nat_abs o ≤ offset_limit
offset_good (TimeOffset.zulu z) = lit≤ tt
offset_good (TimeOffset.numoffset {h = h} {m = m} {negative = g} x (TimeHour.hour a l) (TimeMinute.sixtieth b r)) =
    rw (signed_size g (h * 60 + m)) (omega arith)

pub time_good : {a : List ℕ} {t : TimeMeant} → TimeValue true a t → GoodTime t
time_good (TimeValue.local_date d) = date_good d
time_good (TimeValue.local_time t) = clock_good t
time_good (TimeValue.local_date_time d s t) = (date_good d, clock_good t)
time_good (TimeValue.offset_date_time d s t o) = (date_good d, clock_good t, offset_good o)

-- ---- Binary Data

bytes_join : (a b : List ℕ) → Bytes a → Bytes b → Bytes (a ++ b)
bytes_join [] b x y = y
bytes_join (c ∷ a) b x y = (x.0, bytes_join a b x.1 y)

b_byte : {a : List ℕ} {n : ℕ} → Hexadecimal 2 a n → n < 256
b_byte d = omega (arith, hex_below d)

b_escape : {a u : List ℕ} → BEscape a u → Bytes u
b_escape (BEscape.short s) = (omega (arith, short_low s), tt)
b_escape (BEscape.byte d) = (b_byte d, tt)

ascii_bytes : {r : List Range} {c : List ℕ} → T (under r) → Ascii r c → Bytes c
ascii_bytes {r} h (Ascii.byte {b = b} x) = (omega (arith, below r h b x), tt)

b_plain : {c : List ℕ} → Ascii b_unescaped c → Bytes c
b_plain {c} x = ascii_bytes tt x

b_chars : {q : Quote} {a u : List ℕ} → Chars (Ascii b_unescaped) BEscape q a u → Bytes u
b_chars Chars.none = tt
b_chars (Chars.plain {c = c} {u = u} p r) = bytes_join c u (b_plain p) (b_chars r)
b_chars (Chars.escaped {v = v} {u = u} x r) = bytes_join v u (b_escape x) (b_chars r)
b_chars {q} (Chars.other_quote r) = (omega (arith, mark_low (other q)), b_chars r)

b_quoted : {a u : List ℕ} → Quoted (Ascii b_unescaped) BEscape a u → Bytes u
b_quoted (Quoted.quoted q r) = b_chars r

b_part : {a u : List ℕ} → BPart a u → Bytes u
b_part (BPart.last d) = (b_byte d, tt)
b_part (BPart.more d r) = (b_byte d, b_part r)

b_direct : {a u : List ℕ} → BDirect a u → Bytes u
b_direct (BDirect.part p) = b_part p
b_direct (BDirect.dotted {u = u} {t = t} p r) = bytes_join u t (b_part p) (b_direct r)

b_value : {a u : List ℕ} → BValue a u → Bytes u
b_value BValue.empty = tt
b_value (BValue.string s) = b_quoted s
b_value (BValue.direct d) = b_direct d

pub binary_good : {a u : List ℕ} → Binary a u → Bytes u
binary_good (Concat.part p) = b_value p
binary_good (Concat.plus {u = u} {t = t} p v w r) = bytes_join u t (b_value p) (binary_good r)

-- ---- Unquoted Object Keys

pub key_good : {a u : List ℕ} → Key true a u → Octets u
key_good (Key.string s) = string_good s
key_good (Key.identifier i) = identifier_octets i

-- ---- Values and the text

abbrev GoodInside : Inside → Type 0
GoodInside (elements x) = GoodElements x
GoodInside (members x) = GoodMembers x

abbrev inside_depth : Inside → ℕ
inside_depth (elements x) = elements_depth x
inside_depth (members x) = members_depth x

-- what is inside stays within the limits
record Keeps (d : ℕ) (x y : Inside) : Type 0 where
  parts : GoodInside x → GoodInside y
  shallow : inside_depth x ≤ d → inside_depth y ≤ d

record Within (d : ℕ) (m : Meaning) : Type 0 where
  parts : GoodParts m
  shallow : depth m ≤ d

most_least : (a b d : ℕ) → a ≤ d → b ≤ d → most a b ≤ d
unfolding most
most_least a b d h l = go (leb a b)
  where
    go : (x : Bool) → cond x b a ≤ d
    go true = l
    go false = h

falls : {d e n : ℕ} → Room true d e → n ≤ e → 1 + n ≤ d
falls Room.falls h = omega arith

leaf : {d : ℕ} {m : Meaning} → GoodParts m → depth m ≡ 0 → Within d m
leaf p e = record { parts = p; shallow = omega (arith, e) }

array_within : {d e : ℕ} {x : Meanings} → Room true d e → Keeps e (elements Meanings.none) (elements x) → Within d (Meaning.array x)
unfolding depth elements_depth
array_within r h = record { parts = h.parts tt; shallow = falls r (h.shallow (omega arith)) }

object_within : {d e : ℕ} {x : Members} → Room true d e → Keeps e (members Members.bare) (members x) → Within d (Meaning.object x)
unfolding depth members_depth
object_within r h = record { parts = h.parts tt; shallow = falls r (h.shallow (omega arith)) }

element_keeps : {d : ℕ} (x : Meanings) {m : Meaning} → Within d m → Keeps d (elements x) (elements (Meanings.more x m))
unfolding elements_depth
element_keeps {d} x {m} h = record { parts = λ g. (g, h.parts); shallow = λ l. most_least (elements_depth x) (depth m) d l h.shallow }

member_keeps : {d : ℕ} (x : Members) {u : List ℕ} {m : Meaning} → Octets u → Within d m → Keeps d (members x) (members (Members.member x u m))
unfolding members_depth
member_keeps {d} x {u} {m} o h = record { parts = λ g. (g, o, h.parts); shallow = λ l. most_least (members_depth x) (depth m) d l h.shallow }

same : {d : ℕ} {x : Inside} → Keeps d x x
same = record { parts = λ g. g; shallow = λ l. l }

both : {d : ℕ} {x y z : Inside} → Keeps d x y → Keeps d y z → Keeps d x z
both f g = record { parts = λ h. g.parts (f.parts h); shallow = λ l. g.shallow (f.shallow l) }

value_within : {d : ℕ} {a : List ℕ} {m : Meaning} → Value true d a m → Within d m
unfolding depth
value_within v =
    elim v as (λ d a m v. Within d m) (λ d x a y r. Keeps d x y) (λ d x a y r. Keeps d x y) (λ d x a y r. Keeps d x y) [
      | Value.null_word ↦ leaf tt refl
      | Value.true_word ↦ leaf tt refl
      | Value.false_word ↦ leaf tt refl
      | Value.number n ↦ leaf (number_good n) refl
      | Value.string s ↦ leaf (string_good s) refl
      | Value.binary b ↦ leaf (binary_good b) refl
      | Value.time_value t ↦ leaf (time_good t) refl
      | Value.array r (x → h) ↦ array_within r h
      | Value.object r (x → h) ↦ object_within r h
      | Rest.close w c ↦ same
      | Rest.item w (i → h) (r → g) ↦ both h g
      | After.end w c ↦ same
      | After.comma w (r → h) ↦ h
      | Item.element {x = x} (v → h) ↦ element_keeps x h
      | Item.member {x = x} c v w (m → h) ↦ member_keeps x (key_good c) h
    ]

loose_within : {t : List ℕ} {m : Meaning} → Loose true t m → Within depth_limit m
loose_within (Loose.text w v l h) = value_within v

pub text_good : {t : List ℕ} {m : Meaning} → Text t m → Good m
text_good x = let r = loose_within x.loose in record { parts = r.parts; shallow = r.shallow; single = x.single }
