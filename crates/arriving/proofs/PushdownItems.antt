-- An item inside the pushdown, as the check keeps it and as the machine has it: a byte does the same to both. Assumes nothing.
use Prim.Native.Nat.{ℕ, ◌+◌, ◌≤◌, ◌<◌}
use mathlib.Core.Path.{◌≡◌, refl, sym, ap, subst}
use mathlib.Core.Bool.{true}
use mathlib.Core.Logic.{◌⊎◌}
use mathlib.Core.List.{List, ◌∷◌, ◌++◌}
use native.Mathlib.Omega.{arith}
use lib.ListN.{length, length-append}
use borrow.Author.Tests.{eq-eqb}
use Rattle.meaning.specs.Letters.{ch}
use Rattle.meaning.specs.Limits.{text_limit}
use Rattle.meaning.specs.Meaning.{Meaning}
use Rattle.meaning.specs.Tape.{records, bytes}
use Rattle.machine.specs.Scan as Scan
use Rattle.machine.specs.Scan.{over}
use Rattle.machine.specs.Numeric as Numeric
use Rattle.machine.specs.Strings as Strings
use Rattle.machine.specs.Binaries as Binaries
use Rattle.machine.specs.Names as Names
use Rattle.machine.specs.Machine.{Use, as_value, as_key, Item, word, numeric, string_part, binary_part, identifier, Got, value, key, string, binary, lift, scan}
use Rattle.arriving.specs.declared.states.Due.{Due}
use Rattle.arriving.specs.declared.states.Mode.{Mode}
use Rattle.arriving.specs.declared.states.Octets.TheVariants as Octets
use Rattle.arriving.specs.declared.states.Out.{Out}
use Rattle.arriving.specs.declared.states.Out.TheVariants.{Takes, Stops}
use Rattle.arriving.specs.Between.Figures.{begin_figure, next_figure}
use Rattle.arriving.specs.Between.Times.{next_moment}
use Rattle.arriving.specs.Between.Strings.{open_quote, next_quoted}
use Rattle.arriving.specs.Between.Small.{next_word, next_octets, next_name}
use Rattle.arriving.specs.Between.Arriving.{sane_mode}
use Rattle.arriving.proofs.Alike.{Alike}
use Rattle.arriving.proofs.NumericsLaws.{NumericIs, MeaningGives, numeric_begin, figures_alike, timing_alike, spelling_alike, numeric_end}
use Rattle.arriving.proofs.StringsLaws.{StringIs, strings_alike, strings_begin, strings_end}
use Rattle.arriving.proofs.SmallLaws.{Spelt, word_alike, word_end, NameIs, name_alike, name_begin, BinaryIs, binary_alike, binary_begin, binary_end}
use Rattle.arriving.proofs.PushdownModes.{InNumber, spelling, counting, timing, numeric_mode, InString, quoting, string_mode}
use Rattle.arriving.proofs.PushdownModes.{InBinary, packing, binary_mode, InName, naming, name_mode}

-- ---- what an item gives

-- what is due after a string part
abbrev pub part_due : Use → Due
part_due as_value = Due.AfterString
part_due as_key = Due.AfterKeyString

abbrev pub got_due : Got → Due
got_due (value m) = Due.AfterValue
got_due (key u) = Due.AfterKey
got_due (string z u) = part_due z
got_due (binary u) = Due.AfterBinary

abbrev pub got_records : Got → ℕ
got_records (value m) = records m
got_records (key u) = 1
got_records (string z u) = 1
got_records (binary u) = 1

abbrev pub got_bytes : Got → ℕ
got_bytes (value m) = bytes m
got_bytes (key u) = length u
got_bytes (string z u) = length u
got_bytes (binary u) = length u

-- one record with n store bytes, after which u is due
pub record GotIs (u : Due) (g : Got) (n : ℕ) : Type 0 where
  pub due : u ≡ got_due g
  pub one : got_records g ≡ 1
  pub size : got_bytes g ≡ n

-- ---- an item

-- The mode m stands for the machine's item, which has given n store bytes so far; u is due after it.
pub data ItemIs (base : ℕ) : Due → Mode → Item → ℕ → Type 0 where
  word_is : {i n : ℕ} {ls : List ℕ} {v : Meaning} → Spelt i ls → n ≡ 0 → records v ≡ 1 → bytes v ≡ 0
      → ItemIs base Due.AfterValue (Mode.Spelling i) (word ls v) n
  numeric_is : {m : Mode} {s : Numeric.St} {n : ℕ} → NumericIs base m s n → ItemIs base Due.AfterValue m (numeric s) n
  string_is : {u : Due} {z : Use} {a : List ℕ} {m : Mode} {s : Strings.St} {n t : ℕ} → u ≡ part_due z → t ≡ length a + n → StringIs base m s n
      → ItemIs base u m (string_part z a s) t
  binary_is : {a : List ℕ} {m : Mode} {s : Binaries.St} {n t : ℕ} → t ≡ length a + n → BinaryIs m s n
      → ItemIs base Due.AfterBinary m (binary_part a s) t
  name_is : {m : Mode} {s : Names.St} {n : ℕ} → NameIs m s n → ItemIs base Due.AfterKey m (identifier s) n

-- what a byte does in the mode of an item
abbrev pub item_next : Mode → ℕ → ℕ → Out
item_next Mode.At p b = Stops
item_next Mode.Slash p b = Stops
item_next Mode.Line p b = Stops
item_next Mode.Block p b = Stops
item_next Mode.Star p b = Stops
item_next (Mode.Spelling n) p b = next_word n p b
item_next (Mode.Counting f) p b = next_figure f p b
item_next (Mode.Timing s m) p b = next_moment s m p b
item_next (Mode.Quoting k s) p b = next_quoted k s p b
item_next (Mode.Packing o) p b = next_octets o p b
item_next Mode.Naming p b = next_name b
item_next (Mode.Failed r) p b = Stops

-- ---- from a scanner to the item with it

module _ {S M : Type 0} {Is : Mode → S → ℕ → Type 0} {Gives : M → ℕ → Type 0} (base a : ℕ) (u : Due) (f : S → Item) (g : M → Got)
    (is : (m : Mode) (s : S) (n t : ℕ) → t ≡ a + n → Is m s n → ItemIs base u m (f s) t)
    (gives : (v : M) (n t : ℕ) → t ≡ a + n → Gives v n → GotIs u (g v) t) where
  lifted : (n t : ℕ) → t ≡ a + n → {out : Out} {out' : Scan.Out S M} → Alike Is Gives base n out out'
      → Alike (ItemIs base u) (GotIs u) base t out (lift f g out')
  lifted n t e (Alike.takes {m = m} {s = s} {k = k} h) = Alike.takes (is m s (n + k) (t + k) (omega arith) h)
  lifted n t e (Alike.stops {v = v} h) = Alike.stops (gives v n t e h)
  lifted n t e (Alike.breaks q) = Alike.breaks q

-- ---- each kind of item

-- the value of a part, after those before it
joined_size : (a x : List ℕ) (n t : ℕ) → t ≡ length a + n → length x ≡ n → length (a ++ x) ≡ t
joined_size a x n t e h = rw length-append (omega arith)

module _ (base p b : ℕ) (small : b < 256) where
  numeric_alike : {m : Mode} (s : Numeric.St) (n : ℕ) → base + p ≤ text_limit → sane_mode (base + p) m ≡ true → InNumber m → NumericIs base m s n
      → Alike (NumericIs base) MeaningGives base n (item_next m (base + p) b) (Numeric.scan p s b)
  unfolding sane_mode
  numeric_alike s n l g (spelling {i = i}) h = spelling_alike base i s n p b h small
  numeric_alike s n l g (counting {f = f}) h = figures_alike base f s n p b h small g l
  numeric_alike s n l g (timing {s = x} {m = m}) h = timing_alike base x m s n p b h small

  string_alike : {m : Mode} (s : Strings.St) (n : ℕ) → base + p ≤ text_limit → InString m → StringIs base m s n
      → Alike (StringIs base) (λ (u : List ℕ) (m : ℕ). length u ≡ m) base n (item_next m (base + p) b) (Strings.scan p s b)
  string_alike s n l (quoting {k = k} {s = x}) h = strings_alike base k x s n p b h small l

  octets_alike : {m : Mode} (s : Binaries.St) (n : ℕ) → InBinary m → BinaryIs m s n
      → Alike BinaryIs (λ (u : List ℕ) (m : ℕ). length u ≡ m) base n (item_next m (base + p) b) (Binaries.scan p s b)
  octets_alike s n (packing {o = o}) h = binary_alike base o s n p b h

  names_alike : {m : Mode} (s : Names.St) (n : ℕ) → InName m → NameIs m s n
      → Alike NameIs (λ (u : List ℕ) (m : ℕ). length u ≡ m) base n (item_next m (base + p) b) (Names.scan p s b)
  names_alike s n naming h = name_alike base s n p b h

-- ---- any item

-- the letters that are left of a word
data LettersAre : Mode → List ℕ → ℕ → Type 0 where
  letters_are : {i : ℕ} {ls : List ℕ} → Spelt i ls → LettersAre (Mode.Spelling i) ls 0

letters_is : {base : ℕ} {v : Meaning} → records v ≡ 1 → bytes v ≡ 0 → (m : Mode) (ls : List ℕ) (n t : ℕ) → t ≡ 0 + n → LettersAre m ls n
    → ItemIs base Due.AfterValue m (word ls v) t
letters_is r z m ls n t e (letters_are h) = word_is {n = t} h (omega arith) r z

numbered_is : {base : ℕ} (m : Mode) (s : Numeric.St) (n t : ℕ) → t ≡ 0 + n → NumericIs base m s n → ItemIs base Due.AfterValue m (numeric s) t
numbered_is m s n t e h = let q : t ≡ n = omega arith in rw q (numeric_is h)

named_is : {base : ℕ} (m : Mode) (s : Names.St) (n t : ℕ) → t ≡ 0 + n → NameIs m s n → ItemIs base Due.AfterKey m (identifier s) t
named_is m s n t e h = let q : t ≡ n = omega arith in rw q (name_is h)

-- a byte does the same to the check's item and to the machine's
pub item_alike : (base : ℕ) (u : Due) (m : Mode) (i : Item) (n p b : ℕ) → ItemIs base u m i n → b < 256 → base + p ≤ text_limit
    → sane_mode (base + p) m ≡ true → Alike (ItemIs base u) (GotIs u) base n (item_next m (base + p) b) (scan p i b)
item_alike base u m i n p b (word_is {i = x} {ls = ls} {v = v} h z r q) small l sane =
    lifted base 0 u (λ y. word y v) (λ y. value v) (letters_is r q)
    (λ y k t e w. record { due = refl; one = r; size = omega arith }) 0 n (omega arith) (word_alike LettersAre base (λ j y w. letters_are w) x ls p b h)
item_alike base u m i n p b (numeric_is {s = s} h) small l sane =
    lifted base 0 u numeric value numbered_is (λ v k t e w. record { due = refl; one = w.0; size = omega arith }) n n (omega arith)
    (numeric_alike base p b small s n l sane (numeric_mode h) h)
item_alike base u m i n p b (string_is {z = z} {a = a} {s = s} {n = k} d e h) small l sane =
    lifted base (length a) u (string_part z a) (λ x. string z (a ++ x)) (λ y w j t f g. string_is d f g)
    (λ x j t f w. record { due = d; one = refl; size = joined_size a x j t f w }) k n e (string_alike base p b small s k l (string_mode h) h)
item_alike base u m i n p b (binary_is {a = a} {s = s} {n = k} e h) small l sane =
    lifted base (length a) u (binary_part a) (λ x. binary (a ++ x)) (λ y w j t f g. binary_is f g)
    (λ x j t f w. record { due = refl; one = refl; size = joined_size a x j t f w }) k n e (octets_alike base p b small s k (binary_mode h) h)
item_alike base u m i n p b (name_is {s = s} h) small l sane =
    lifted base 0 u identifier key named_is (λ x j t f w. record { due = refl; one = refl; size = omega arith }) n n (omega arith)
    (names_alike base p b small s n (name_mode h) h)

names_end : (p : ℕ) (s : Names.St) → Names.scan p s over ≡ Names.scan p s 0
unfolding Names.scan Names.class_of Names.on_start Names.on_name
names_end p Names.start = refl
names_end p (Names.name acc) = refl

-- the text's end is to an item what a zero byte is
pub item_end : {base : ℕ} {u : Due} {m : Mode} {i : Item} {n : ℕ} (p : ℕ) → ItemIs base u m i n → scan p i over ≡ scan p i 0
item_end p (word_is {i = x} {ls = ls} {v = v} h z r q) = ap (lift (λ y. word y v) (λ y. value v)) (word_end x ls p h)
item_end {base} p (numeric_is {m = m} {s = s} {n = n} h) = ap (lift numeric value) (numeric_end base m s n p h)
item_end p (string_is {z = z} {a = a} d e h) = ap (lift (string_part z a) (λ x. string z (a ++ x))) (strings_end p h)
item_end p (binary_is {a = a} {m = m} {s = s} {n = n} e h) = ap (lift (binary_part a) (λ x. binary (a ++ x))) (binary_end m s n p h)
item_end p (name_is {s = s} h) = ap (lift identifier key) (names_end p s)

-- ---- an item's first byte

-- a string part, after the bytes a of the parts before it
pub string_begins : (base p b : ℕ) (z : Use) (a : List ℕ) → (b ≡ ch "\"") ⊎ (b ≡ ch "'")
    → Alike (ItemIs base (part_due z)) (GotIs (part_due z)) base (length a) (Takes (open_quote b) 0) (scan p (string_part z a Strings.begin) b)
string_begins base p b z a q =
    lifted base (length a) (part_due z) (string_part z a) (λ x. string z (a ++ x)) (λ y w j t f g. string_is refl f g)
    (λ x j t f w. record { due = refl; one = refl; size = joined_size a x j t f w }) 0 (length a) (omega arith) (strings_begin base p b q)

pub binary_begins : (base p b : ℕ) (a : List ℕ) → b ≡ ch "$"
    → Alike (ItemIs base Due.AfterBinary) (GotIs Due.AfterBinary) base (length a) (Takes (Mode.Packing Octets.Dollar) 0)
    (scan p (binary_part a Binaries.begin) b)
binary_begins base p b a q =
    lifted base (length a) Due.AfterBinary (binary_part a) (λ x. binary (a ++ x)) (λ y w j t f g. binary_is f g)
    (λ x j t f w. record { due = refl; one = refl; size = joined_size a x j t f w }) 0 (length a) (omega arith)
    (subst
    (λ (c : ℕ). Alike BinaryIs (λ (u : List ℕ) (m : ℕ). length u ≡ m) base 0 (Takes (Mode.Packing Octets.Dollar) 0) (Binaries.scan p Binaries.begin c)) (sym q)
    (binary_begin base p))

pub name_begins : (base p b : ℕ) → Names.class_of b ≡ Names.letter
    → Alike (ItemIs base Due.AfterKey) (GotIs Due.AfterKey) base 0 (Takes Mode.Naming 1) (scan p (identifier Names.begin) b)
name_begins base p b q =
    lifted base 0 Due.AfterKey identifier key named_is (λ x j t f w. record { due = refl; one = refl; size = omega arith }) 0 0 (omega arith)
    (name_begin base p b q)

pub number_begins : (base p b : ℕ) → b < 256
    → Alike (ItemIs base Due.AfterValue) (GotIs Due.AfterValue) base 0 (begin_figure (base + p) b) (scan p (numeric Numeric.begin) b)
number_begins base p b small =
    lifted base 0 Due.AfterValue numeric value numbered_is (λ v k t e w. record { due = refl; one = w.0; size = omega arith }) 0 0 (omega arith)
    (numeric_begin base p b small)

-- a word's first letter c, before the letters ls
pub word_begins : (base p c i : ℕ) (ls : List ℕ) (v : Meaning) → Spelt i ls → records v ≡ 1 → bytes v ≡ 0
    → Alike (ItemIs base Due.AfterValue) (GotIs Due.AfterValue) base 0 (Takes (Mode.Spelling i) 0) (scan p (word (c ∷ ls) v) c)
unfolding Names.word_scan
word_begins base p c i ls v h r z = rw (eq-eqb c c refl) (Alike.takes (word_is {n = 0 + 0} h (omega arith) r z))
