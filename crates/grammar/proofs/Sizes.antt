-- Records and store bytes are each at most the text's length. Assumes nothing.
use Prim.Native.Nat.{ℕ, suc, ◌+◌, ◌≤◌}
use mathlib.Core.Path.{◌≡◌, refl, ap}
use mathlib.Core.Bool.{Bool, true, false, cond}
use mathlib.Core.List.{List, [], ◌∷◌, ◌++◌}
use native.Mathlib.Omega.{arith}
use lib.Dec.{leb, lit≤}
use lib.ListN.{length, length-append}
use Rattle.rules.specs.Rfc3629.{encode}
use Rattle.meaning.specs.declared.Number.{Number as NumberMeant}
use Rattle.meaning.specs.declared.Date.{Date as DateMeant}
use Rattle.meaning.specs.declared.Time.{Time as TimeMeant}
use Rattle.meaning.specs.Meaning.{Meaning, Meanings, Members}
use Rattle.meaning.specs.Letters.{ch}
use Rattle.meaning.specs.Tape.{records, elements_records, members_records, store_of, elements_store, members_store, bytes}
use Rattle.grammar.specs.Characters.{Digits}
use Rattle.grammar.specs.Numbers.{Int, Frac1, Dec, Unsigned, Number}
use Rattle.grammar.specs.Strings.{Quote, Chars, Quoted, joined, Escape, StringPart, Concat, String}
use Rattle.grammar.specs.Times.{LocalTimeText, LocalDateText, TimeValue}
use Rattle.grammar.specs.Binary.{BEscape, BPart, BDirect, BValue, Binary}
use Rattle.grammar.specs.Keys.{Key}
use Rattle.grammar.specs.Values.{Inside, elements, members, Value, Rest, After, Item, Loose}

-- ---- an item has a byte

int : {a : List ℕ} {v : ℕ} → Int a v → 1 ≤ length a
int Int.zero_digit = lit≤ tt
int (Int.positive i d) = omega arith

dec : {a : List ℕ} {m up dn : ℕ} → Dec a m up dn → 1 ≤ length a
dec (Dec.whole i f x) = simp length-append (omega (arith, int i))
dec (Dec.part (Frac1.given d) x) = omega arith

module _ {k : Bool} where
  unsigned : {g : Bool} {a : List ℕ} {n : NumberMeant} → Unsigned k g a n → 1 ≤ length a
  unsigned Unsigned.nan = lit≤ tt
  unsigned Unsigned.inf = lit≤ tt
  unsigned (Unsigned.hex x d h f) = omega arith
  unsigned (Unsigned.dec d f) = dec d

  number : {a : List ℕ} {n : NumberMeant} → Number k a n → 1 ≤ length a
  number (Number.number s u) = simp length-append (omega (arith, unsigned u))

  local_date : {a : List ℕ} {d : DateMeant} → LocalDateText k a d → 1 ≤ length a
  local_date (LocalDateText.local_date y m d h) = simp length-append (omega arith)

  local_time : {a : List ℕ} {n : ℕ} → LocalTimeText k a n → 1 ≤ length a
  local_time (LocalTimeText.local_time h m s f) = simp length-append (omega arith)

  time_value : {a : List ℕ} {t : TimeMeant} → TimeValue k a t → 1 ≤ length a
  time_value (TimeValue.local_date d) = local_date d
  time_value (TimeValue.local_time t) = local_time t
  time_value (TimeValue.local_date_time d s t) = simp length-append (omega arith)
  time_value (TimeValue.offset_date_time d s t o) = simp length-append (omega arith)

-- ---- a string or binary is no longer than its text, and its text has a byte

-- what a part of a text stands for, and how long the part is at least
record Covers (a u : List ℕ) : Type 0 where
  some : 1 ≤ length a
  least : length u ≤ length a

either : (x : Bool) (p q : List ℕ) → length p ≤ 4 → length q ≤ 4 → length (cond x p q) ≤ 4
either true p q h l = h
either false p q h l = l

encoded : (n : ℕ) → length (encode n) ≤ 4
unfolding encode
encoded n = either (leb n 0x7F) _ _ (lit≤ tt) (either (leb n 0x7FF) _ _ (lit≤ tt) (either (leb n 0xFFFF) _ _ (lit≤ tt) (lit≤ tt)))

chars : {P : List ℕ → Type 0} {E : List ℕ → List ℕ → Type 0} {q : Quote} {a u : List ℕ} → ((c v : List ℕ) → E c v → length v ≤ suc (length c)) → Chars P E q a u
    → length u ≤ length a
chars g Chars.none = lit≤ tt
chars g (Chars.plain c r) = simp length-append (omega (arith, chars g r))
chars g (Chars.escaped x r) = simp length-append (omega (arith, g _ _ x, chars g r))
chars g (Chars.other_quote r) = omega (arith, chars g r)

quoted : {P : List ℕ → Type 0} {E : List ℕ → List ℕ → Type 0} {a u : List ℕ} → ((c v : List ℕ) → E c v → length v ≤ suc (length c)) → Quoted P E a u
    → Covers a u
quoted g (Quoted.quoted q r) = record { some = omega arith; least = simp length-append (omega (arith, chars g r)) }

digits : {D : ℕ → ℕ → Type 0} {base n v w : ℕ} {a : List ℕ} → Digits D base n v a w → length a ≡ n
digits Digits.over = refl
digits (Digits.next d r) = ap suc (digits r)

escape : {k : Bool} {a u : List ℕ} → Escape k a u → length u ≤ suc (length a)
escape (Escape.short s) = lit≤ tt
escape (Escape.unit {n = n} d h) = omega (arith, encoded n, digits d)
escape (Escape.pair {high = h} {low = l} c i d j) = simp length-append (omega (arith, encoded (joined h l), digits c, digits d))
escape (Escape.braced {n = n} d h) = simp length-append (omega (arith, encoded n, digits d))

string_part : {k : Bool} {a u : List ℕ} → StringPart k a u → Covers a u
string_part (StringPart.one_line r) = quoted (λ c v. escape) r
string_part (StringPart.multiline q m h) = record { some = omega arith; least = simp length-append (omega arith) }
string_part (StringPart.trimmed q n m) = record { some = omega arith; least = simp length-append (omega arith) }

concat : {P : List ℕ → List ℕ → Type 0} {a u : List ℕ} → ((c v : List ℕ) → P c v → Covers c v) → Concat P a u → Covers a u
concat f (Concat.part p) = f _ _ p
concat f (Concat.plus p v w r) = let x = f _ _ p in let y = concat f r in record
    { some = simp length-append (omega arith); least = simp length-append (omega arith) }

string : {k : Bool} {a u : List ℕ} → String k a u → Covers a u
string s = concat (λ c v. string_part) s

b_escape : {a u : List ℕ} → BEscape a u → length u ≤ suc (length a)
b_escape (BEscape.short s) = lit≤ tt
b_escape (BEscape.byte d) = omega arith

b_part : {a u : List ℕ} → BPart a u → length u ≤ length a
b_part (BPart.last d) = omega (arith, digits d)
b_part (BPart.more d r) = simp length-append (omega (arith, digits d, b_part r))

b_direct : {a u : List ℕ} → BDirect a u → length u ≤ length a
b_direct (BDirect.part p) = b_part p
b_direct (BDirect.dotted p r) = simp length-append (omega (arith, b_part p, b_direct r))

b_value : {a u : List ℕ} → BValue a u → Covers a u
b_value BValue.empty = record { some = lit≤ tt; least = lit≤ tt }
b_value (BValue.string s) = let x = quoted (λ c v. b_escape) s in record { some = omega arith; least = omega arith }
b_value (BValue.direct d) = record { some = omega arith; least = omega (arith, b_direct d) }

binary : {a u : List ℕ} → Binary a u → Covers a u
binary b = concat (λ c v. b_value) b

key : {k : Bool} {a u : List ℕ} → Key k a u → length u ≤ length a
key (Key.string s) = (string s).least
key (Key.identifier i) = omega arith

-- ---- values

pub record Fits (a : List ℕ) (m : Meaning) : Type 0 where
  pub few : records m ≤ length a
  pub small : bytes m ≤ length a

abbrev inside_records : Inside → ℕ
inside_records (elements x) = elements_records x
inside_records (members x) = members_records x

abbrev inside_bytes : Inside → ℕ
inside_bytes (elements x) = length (elements_store x)
inside_bytes (members x) = length (members_store x)

-- the bytes a account for what is more in y than in x
record Grows (a : List ℕ) (x y : Inside) : Type 0 where
  few : inside_records y ≤ inside_records x + length a
  small : inside_bytes y ≤ inside_bytes x + length a

word : {a : List ℕ} {m : Meaning} → records m ≡ 1 → store_of m ≡ [] → 1 ≤ length a → Fits a m
word {a} {m} e f h = record { few = omega (arith, e); small = omega (arith, ap length f) }

covered : {a u : List ℕ} {m : Meaning} → records m ≡ 1 → store_of m ≡ u → Covers a u → Fits a m
covered e f c = record { few = omega (arith, e, c.some); small = omega (arith, ap length f, c.least) }

array : {a : List ℕ} {x : Meanings} → Grows a (elements Meanings.none) (elements x) → Fits (ch "[" ∷ a) (Meaning.array x)
unfolding records elements_records store_of elements_store
array h = record { few = omega (arith, h.few); small = omega (arith, h.small) }

object : {a : List ℕ} {x : Members} → Grows a (members Members.bare) (members x) → Fits (ch "{" ∷ a) (Meaning.object x)
unfolding records members_records store_of members_store
object h = record { few = omega (arith, h.few); small = omega (arith, h.small) }

close : {x : Inside} {a : List ℕ} → Grows a x x
close = record { few = omega arith; small = omega arith }

item : {x y z : Inside} (w : List ℕ) {a b : List ℕ} → Grows a x y → Grows b y z → Grows (w ++ (a ++ b)) x z
item w f g = record { few = simp length-append (omega (arith, f.few, g.few)); small = simp length-append (omega (arith, f.small, g.small)) }

comma : {x y : Inside} (w : List ℕ) {a : List ℕ} → Grows a x y → Grows (w ++ (ch "," ∷ a)) x y
comma w f = record { few = simp length-append (omega (arith, f.few)); small = simp length-append (omega (arith, f.small)) }

element : {x : Meanings} {a : List ℕ} {m : Meaning} → Fits a m → Grows a (elements x) (elements (Meanings.more x m))
unfolding elements_records elements_store
element f = record { few = omega (arith, f.few); small = simp length-append (omega (arith, f.small)) }

member : {x : Members} (c u v w : List ℕ) {a : List ℕ} {m : Meaning} → length u ≤ length c → Fits a m
    → Grows (c ++ (v ++ (ch ":" ∷ (w ++ a)))) (members x) (members (Members.member x u m))
unfolding members_records members_store
member c u v w l f = record { few = simp length-append (omega (arith, f.few)); small = simp length-append (omega (arith, f.small)) }

pub value_fits : {k : Bool} {d : ℕ} {a : List ℕ} {m : Meaning} → Value k d a m → Fits a m
unfolding records store_of
value_fits v =
    elim v as (λ d a m v. Fits a m) (λ d x a y r. Grows a x y) (λ d x a y r. Grows a x y) (λ d x a y r. Grows a x y) [
      | Value.null_word ↦ word refl refl (lit≤ tt)
      | Value.true_word ↦ word refl refl (lit≤ tt)
      | Value.false_word ↦ word refl refl (lit≤ tt)
      | Value.number n ↦ word refl refl (number n)
      | Value.string s ↦ covered refl refl (string s)
      | Value.binary b ↦ covered refl refl (binary b)
      | Value.time_value t ↦ word refl refl (time_value t)
      | Value.array r (x → h) ↦ array h
      | Value.object r (x → h) ↦ object h
      | Rest.close w c ↦ close
      | Rest.item {w = u} w (i → h) (r → g) ↦ item u h g
      | After.end w c ↦ close
      | After.comma {w = u} w (r → h) ↦ comma u h
      | Item.element (v → h) ↦ element h
      | Item.member {c = c} {u = u} {v = v} {w = w} y p q (m → h) ↦ member c u v w (key y) h
    ]

pub text_fits : {k : Bool} {t : List ℕ} {m : Meaning} → Loose k t m → Fits t m
text_fits (Loose.text w v l h) = let f = value_fits v in record {
  few = simp length-append (omega (arith, f.few));
  small = simp length-append (omega (arith, f.small));
}
