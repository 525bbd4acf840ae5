-- Words, identifiers and binary parts: what a byte brings, and that it does to the check what it does to the machine. Assumes nothing.
use Prim.Native.Nat.{ℕ, ◌+◌, ◌*◌, ◌<◌}
use mathlib.Core.Path.{◌≡◌, refl}
use mathlib.Core.Bool.{Bool, true, false, cond}
use mathlib.Core.List.{List, [], ◌∷◌, ◌++◌}
use native.Mathlib.Omega.{arith}
use native.Mathlib.Decide.{dec_lt}
use lib.Dec.{eqb, ltb, leb}
use lib.ListN.{length, length-append, get_or-eq_default}
use borrow.Author.Tests.{eqb-true, ltb-true, ltb-false, eq-eqb, ne_eqb}
use Rattle.meaning.specs.Letters.{letters, ch}
use Rattle.meaning.specs.Meaning.{Meaning}
use Rattle.meaning.specs.declared.Number.{Number}
use Rattle.meaning.specs.declared.Refusal.TheVariants.{NotGrammar}
use Rattle.machine.specs.Scan as Scan
use Rattle.machine.specs.Scan.{over}
use Rattle.machine.specs.Strings.{hex_of, no_digit, short_of, no_short}
use Rattle.machine.specs.Names as Names
use Rattle.machine.specs.Binaries as Binaries
use Rattle.machine.specs.Numeric as Numeric
use Rattle.machine.specs.Machine.{Class, blank_c, hash_c, slash_c, comma_c, colon_c, plus_c, quote_c, dollar_c, letter_n, letter_t}
use Rattle.machine.specs.Machine.{letter_f, letter_c, other_c, open_c, close_c}
use Rattle.machine.proofs.Classes.{ClassIs}
use Rattle.reader.proofs.KeyLaws.{SortIs, sort_is_lem}
use Rattle.arriving.specs.declared.states.Octets as OctetsOf
use Rattle.arriving.specs.declared.states.Octets.TheVariants as Octets
use Rattle.arriving.specs.declared.states.Mode.{Mode}
use Rattle.arriving.specs.declared.states.Mode.TheVariants.{Spelling, Packing, Naming}
use Rattle.arriving.specs.declared.states.Out.{Out}
use Rattle.arriving.specs.declared.states.Out.TheVariants.{Takes, Stops, Breaks}
use Rattle.arriving.specs.Between.Arriving.{sane_mode}
use Rattle.arriving.specs.Between.Small.{null_at, true_at, false_at, not_a_number_at, infinity_at, words, letter_at, next_word, on_name, next_name}
use Rattle.arriving.specs.Between.Small.{packs, on_digit, on_short, on_text, on_dollar, on_escape, on_pair, next_octets}
use Rattle.arriving.proofs.Alike.{Alike, takes, stops, breaks}
use Rattle.arriving.proofs.Bounds.{Bounded}

-- ---- words

-- a letter stands within the list
pub letter_within : (n : ℕ) → (letter_at n ≡ 0 → ⊥) → n < 29
unfolding letter_at
letter_within n h = by (ltb n 29) refl
  where
    by : (x : Bool) → ltb n 29 ≡ x → n < 29
    by true e = ltb-true n 29 e
    by false e = absurd (h (get_or-eq_default words 0 (ltb-false n 29 e)))

pub word_bounded : (n i p b : ℕ) → Bounded n (next_word i p b)
unfolding next_word sane_mode
word_bounded n i p b = by (eqb (letter_at i) 0) (eqb b (letter_at i))
  where
    by : (x y : Bool) → Bounded n (cond x Stops (cond y (Takes (Spelling (i + 1)) 0) (Breaks (NotGrammar p))))
    by true y = tt
    by false true = (refl, omega arith)
    by false false = tt

-- the letters from a place of the list of words up to the next zero
pub data Spelt : ℕ → List ℕ → Type 0 where
  whole : {i : ℕ} → letter_at i ≡ 0 → Spelt i []
  letter : {i c : ℕ} {ls : List ℕ} → letter_at i ≡ c → 0 < c → c < over → Spelt (i + 1) ls → Spelt i (c ∷ ls)

-- the same as a test that computes
abbrev spells : ℕ → List ℕ → Bool
spells i [] = eqb (letter_at i) 0
spells i (c ∷ ls) = cond (eqb (letter_at i) c) (cond (ltb 0 c) (cond (ltb c over) (spells (i + 1) ls) false) false) false

spelt : (i : ℕ) (ls : List ℕ) → spells i ls ≡ true → Spelt i ls
spelt i [] e = whole (eqb-true _ _ e)
spelt i (c ∷ ls) e = by (spelt (i + 1) ls) (eqb (letter_at i) c) (ltb 0 c) (ltb c over) refl refl refl e
  where
    by : (spells (i + 1) ls ≡ true → Spelt (i + 1) ls) → (x y z : Bool) → eqb (letter_at i) c ≡ x → ltb 0 c ≡ y → ltb c over ≡ z
        → cond x (cond y (cond z (spells (i + 1) ls) false) false) false ≡ true → Spelt i (c ∷ ls)
    by k true true true e f g h = letter (eqb-true _ _ e) (ltb-true _ _ f) (ltb-true _ _ g) (k h)
    by k true true false e f g h = absurd (let z : ◌≡◌ {A = ℕ} 0 1 = cc in omega arith)
    by k true false z e f g h = absurd (let z : ◌≡◌ {A = ℕ} 0 1 = cc in omega arith)
    by k false y z e f g h = absurd (let z : ◌≡◌ {A = ℕ} 0 1 = cc in omega arith)

pub null_spelt : Spelt null_at (letters "ull")
unfolding letter_at
null_spelt = spelt null_at (letters "ull") refl

pub true_spelt : Spelt true_at (letters "rue")
unfolding letter_at
true_spelt = spelt true_at (letters "rue") refl

pub false_spelt : Spelt false_at (letters "alse")
unfolding letter_at
false_spelt = spelt false_at (letters "alse") refl

pub nan_spelt : Spelt not_a_number_at (letters "aN")
unfolding letter_at
nan_spelt = spelt not_a_number_at (letters "aN") refl

pub infinity_spelt : Spelt infinity_at (letters "nfinity")
unfolding letter_at
infinity_spelt = spelt infinity_at (letters "nfinity") refl

-- a letter that is no zero
nonzero : {c : ℕ} → 0 < c → c ≡ 0 → ⊥
nonzero h e = omega arith

module _ (Is : Mode → List ℕ → ℕ → Type 0) (base : ℕ) (is : (i : ℕ) (ls : List ℕ) → Spelt i ls → Is (Spelling i) ls 0) where
  pub word_alike : (i : ℕ) (ls : List ℕ) (p b : ℕ) → Spelt i ls
      → Alike Is (λ (u : Unit {0}) n. n ≡ 0) base 0 (next_word i (base + p) b) (Names.word_scan p ls b)
  unfolding next_word Names.word_scan
  word_alike i [] p b (whole e) = rw (eq-eqb (letter_at i) 0 e) (stops refl)
  word_alike i (c ∷ ls) p b (letter e h l s) = rw (e, ne_eqb c 0 (nonzero h)) (by (eqb b c))
    where
      by : (x : Bool) → Alike Is (λ (u : Unit {0}) n. n ≡ 0) base 0 (cond x (Takes (Spelling (i + 1)) 0) (Breaks (NotGrammar (base + p))))
          (cond x (Scan.takes ls) (Scan.breaks (NotGrammar p)))
      by true = takes (is (i + 1) ls s)
      by false = breaks refl

module _ (Is : Mode → Numeric.St → ℕ → Type 0) (Gives : Meaning → ℕ → Type 0) (base : ℕ) (n : Number)
    (is : (i : ℕ) (ls : List ℕ) → Spelt i ls → Is (Spelling i) (Numeric.word ls n) 0) (gives : Gives (Meaning.number n) 0) where
  pub number_word : (i : ℕ) (ls : List ℕ) (p b : ℕ) → Spelt i ls
      → Alike Is Gives base 0 (next_word i (base + p) b) (Numeric.scan p (Numeric.word ls n) b)
  unfolding next_word
  number_word i [] p b (whole e) = rw (eq-eqb (letter_at i) 0 e) (stops gives)
  number_word i (c ∷ ls) p b (letter e h l s) = rw (e, ne_eqb c 0 (nonzero h)) (by (eqb b c))
    where
      by : (x : Bool) → Alike Is Gives base 0 (cond x (Takes (Spelling (i + 1)) 0) (Breaks (NotGrammar (base + p))))
          (cond x (Scan.takes (Numeric.word ls n)) (Scan.breaks (NotGrammar p)))
      by true = takes (is (i + 1) ls s)
      by false = breaks refl

-- the text's end does what a zero byte does
pub word_end : (i : ℕ) (ls : List ℕ) (p : ℕ) → Spelt i ls → Names.word_scan p ls over ≡ Names.word_scan p ls 0
unfolding Names.word_scan
word_end i [] p (whole e) = refl
word_end i (c ∷ ls) p (letter e h l s) = rw (ne_eqb over c (omega arith), ne_eqb 0 c (omega arith))

pub number_word_end : (n : Number) (i : ℕ) (ls : List ℕ) (p : ℕ) → Spelt i ls
    → Numeric.scan p (Numeric.word ls n) over ≡ Numeric.scan p (Numeric.word ls n) 0
number_word_end n i [] p (whole e) = refl
number_word_end n i (c ∷ ls) p (letter e h l s) = rw (ne_eqb over c (omega arith), ne_eqb 0 c (omega arith))

-- ---- identifiers

pub name_bounded : (n b : ℕ) → Bounded n (next_name b)
unfolding next_name sane_mode
name_bounded n b = by (Names.class_of b)
  where
    by : (c : Names.Class) → Bounded n (on_name c)
    by Names.letter = (refl, omega arith)
    by Names.figure = (refl, omega arith)
    by Names.neither = tt

-- one byte more
longer : (acc : List ℕ) (b n : ℕ) → length acc ≡ n → length (acc ++ (b ∷ [])) ≡ n + 1
longer acc b n e = rw length-append (omega arith)

-- none more
still : (acc : List ℕ) (n : ℕ) → length acc ≡ n → length acc ≡ n + 0
still acc n e = omega arith

pub data NameIs : Mode → Names.St → ℕ → Type 0 where
  named : {acc : List ℕ} {n : ℕ} → length acc ≡ n → NameIs Naming (Names.name acc) n

pub name_alike : (base : ℕ) (st : Names.St) (n p b : ℕ) → NameIs Naming st n
    → Alike NameIs (λ u m. length u ≡ m) base n (next_name b) (Names.scan p st b)
unfolding next_name Names.scan Names.on_name
name_alike base (Names.name acc) n p b (named e) = by (Names.class_of b)
  where
    by : (c : Names.Class) → Alike NameIs (λ u m. length u ≡ m) base n (on_name c) (Names.on_name acc b c)
    by Names.letter = takes (named (longer acc b n e))
    by Names.figure = takes (named (longer acc b n e))
    by Names.neither = stops e
name_alike base Names.start n p b x = elim x [ ]

pub name_begin : (base p b : ℕ) → Names.class_of b ≡ Names.letter
    → Alike NameIs (λ u m. length u ≡ m) base 0 (Takes Naming 1) (Names.scan p Names.begin b)
unfolding Names.scan Names.on_start
name_begin base p b e = rw e (takes (named refl))

pub name_end : (p : ℕ) (acc : List ℕ) → Names.scan p (Names.name acc) over ≡ Names.scan p (Names.name acc) 0
unfolding Names.scan Names.on_name Names.class_of
name_end p acc = refl

-- a class of bytes that begin an identifier
abbrev pub Begins : Class → Type 0
Begins dollar_c = Unit {0}
Begins letter_n = Unit {0}
Begins letter_t = Unit {0}
Begins letter_f = Unit {0}
Begins letter_c = Unit {0}
Begins blank_c = ⊥
Begins hash_c = ⊥
Begins slash_c = ⊥
Begins comma_c = ⊥
Begins colon_c = ⊥
Begins plus_c = ⊥
Begins quote_c = ⊥
Begins other_c = ⊥
Begins (open_c c) = ⊥
Begins (close_c c) = ⊥

class_sort : (b : ℕ) (c : Class) → ClassIs b c → Begins c → SortIs b Names.letter
class_sort b dollar_c x y = (omega arith, omega arith, omega arith, omega arith)
class_sort b letter_n x y = (omega arith, omega arith, omega arith, omega arith)
class_sort b letter_t x y = (omega arith, omega arith, omega arith, omega arith)
class_sort b letter_f x y = (omega arith, omega arith, omega arith, omega arith)
class_sort b letter_c x y = (omega (arith, x.0), x.1, λ h. absurd (omega (arith, x.0)), x.2)
class_sort b blank_c x y = absurd y
class_sort b hash_c x y = absurd y
class_sort b slash_c x y = absurd y
class_sort b comma_c x y = absurd y
class_sort b colon_c x y = absurd y
class_sort b plus_c x y = absurd y
class_sort b quote_c x y = absurd y
class_sort b other_c x y = absurd y
class_sort b (open_c c) x y = absurd y
class_sort b (close_c c) x y = absurd y

same_sort : (b : ℕ) (s : Names.Class) → SortIs b Names.letter → SortIs b s → s ≡ Names.letter
same_sort b Names.letter x y = refl
same_sort b Names.figure x y = absurd (omega (arith, x.2 (omega (arith, y.1)), y.0))
same_sort b Names.neither x y = absurd (by (dec_lt b (ch "A")) (dec_lt b (ch "a")))
  where
    by : Dec (b < ch "A") → Dec (b < ch "a") → ⊥
    by (Dec.yes h) q = y.0 (x.2 h)
    by (Dec.no h) (Dec.yes g) = y.3 (x.3 (y.1 (omega arith)) g)
    by (Dec.no h) (Dec.no g) = omega (arith, y.2 (omega arith), x.1)

-- what the machine's class of a byte says of its sort
pub class_letter : (b : ℕ) (c : Class) → ClassIs b c → Begins c → Names.class_of b ≡ Names.letter
class_letter b c x y = same_sort b (Names.class_of b) (class_sort b c x y) (sort_is_lem b)

-- ---- binary parts

-- the binary parts that stand for the machine's: n bytes so far, and a quote that is a byte and no zero
pub data BinaryIs : Mode → Binaries.St → ℕ → Type 0 where
  dollar : BinaryIs (Packing Octets.Dollar) Binaries.dollar 0
  text : {q n : ℕ} {acc : List ℕ} → 0 < q → q < over → length acc ≡ n → BinaryIs (Packing (Octets.Text q)) (Binaries.text q acc) n
  escape : {q n : ℕ} {acc : List ℕ} → 0 < q → q < over → length acc ≡ n → BinaryIs (Packing (Octets.Escape q)) (Binaries.esc q acc) n
  hex : {q n : ℕ} {acc : List ℕ} → 0 < q → q < over → length acc ≡ n → BinaryIs (Packing (Octets.Hex q)) (Binaries.hex q acc) n
  hex_low : {q n v : ℕ} {acc : List ℕ} → 0 < q → q < over → length acc ≡ n → BinaryIs (Packing (Octets.HexLow q)) (Binaries.hex_low q acc v) n
  low : {n v : ℕ} {acc : List ℕ} → length acc ≡ n → BinaryIs (Packing Octets.Low) (Binaries.low acc v) n
  pair : {n : ℕ} {acc : List ℕ} → length acc ≡ n → BinaryIs (Packing Octets.Pair) (Binaries.pairs acc) n
  dot : {n : ℕ} {acc : List ℕ} → length acc ≡ n → BinaryIs (Packing Octets.Dot) (Binaries.dot acc) n
  done : {n : ℕ} {acc : List ℕ} → length acc ≡ n → BinaryIs (Packing Octets.Done) (Binaries.done acc) n

-- what a byte does to both
abbrev BothGo : ℕ → ℕ → Out → Scan.Out Binaries.St (List ℕ) → Type 0
BothGo base n o o' = Alike BinaryIs (λ u m. length u ≡ m) base n o o'

module _ (base n : ℕ) where
  digit_alike : (x : ℕ) (o o' : Out) (f : ℕ → Binaries.St) (a : Scan.Out Binaries.St (List ℕ)) → BothGo base n o (Scan.takes (f x))
      → BothGo base n o' a → BothGo base n (on_digit x o o') (Binaries.on_digit x f a)
  unfolding on_digit Binaries.on_digit
  digit_alike x o o' f a h k = by (ltb x no_digit)
    where
      by : (y : Bool) → BothGo base n (cond y o o') (cond y (Scan.takes (f x)) a)
      by true = h
      by false = k

  pair_alike : (x : ℕ) (acc : List ℕ) → length acc ≡ n
      → BothGo base n (on_digit x (packs Octets.Low 0) Stops) (Binaries.on_digit x (Binaries.low acc) (Scan.stops acc))
  pair_alike x acc e = digit_alike x (packs Octets.Low 0) Stops (Binaries.low acc) (Scan.stops acc) (takes (low (still acc n e))) (stops e)

  more_alike : (x p k : ℕ) (o : OctetsOf.Octets) (f : ℕ → Binaries.St) → BinaryIs (Packing o) (f x) (n + k)
      → BothGo base n (on_digit x (packs o k) (Breaks (NotGrammar (base + p)))) (Binaries.on_digit x f (Scan.breaks (NotGrammar p)))
  more_alike x p k o f h =
      digit_alike x (packs o k) (Breaks (NotGrammar (base + p))) f (Scan.breaks (NotGrammar p)) (takes h) (breaks refl)

  module _ (p q b : ℕ) (low : 0 < q) (high : q < over) (acc : List ℕ) (e : length acc ≡ n) where
    text_alike : BothGo base n (on_text (base + p) q b) (Binaries.on_text p q acc b)
    unfolding on_text Binaries.on_text
    text_alike = by (eqb b (ch "\\")) (eqb b q) (ltb b 0x20) (leb b 0x7E)
      where
        by : (x y z w : Bool) → BothGo base n
            (cond x (packs (Octets.Escape q) 0) (cond y (packs Octets.Done 0) (cond z (Breaks (NotGrammar (base + p)))
            (cond w (packs (Octets.Text q) 1) (Breaks (NotGrammar (base + p)))))))
            (cond x (Scan.takes (Binaries.esc q acc)) (cond y (Scan.takes (Binaries.done acc)) (cond z (Scan.breaks (NotGrammar p))
            (cond w (Scan.takes (Binaries.text q (acc ++ (b ∷ [])))) (Scan.breaks (NotGrammar p))))))
        by true y z w = takes (escape low high (still acc n e))
        by false true z w = takes (done (still acc n e))
        by false false true w = breaks refl
        by false false false true = takes (text low high (longer acc b n e))
        by false false false false = breaks refl

    escape_alike : BothGo base n (on_escape (base + p) q b) (Binaries.scan p (Binaries.esc q acc) b)
    unfolding on_escape on_short Binaries.scan Binaries.on_short
    escape_alike = by (eqb b (ch "x")) (ltb (short_of b) no_short)
      where
        by : (x y : Bool) → BothGo base n
            (cond x (packs (Octets.Hex q) 0) (cond y (packs (Octets.Text q) 1) (Breaks (NotGrammar (base + p)))))
            (cond x (Scan.takes (Binaries.hex q acc))
            (cond y (Scan.takes (Binaries.text q (acc ++ (short_of b ∷ [])))) (Scan.breaks (NotGrammar p))))
        by true y = takes (hex low high (still acc n e))
        by false true = takes (text low high (longer acc (short_of b) n e))
        by false false = breaks refl

dollar_alike : (base p b : ℕ) → BothGo base 0 (on_dollar b) (Binaries.scan p Binaries.dollar b)
unfolding on_dollar Binaries.scan
dollar_alike base p b = by (eqb b (ch "\"")) (eqb b (ch "'")) refl refl
  where
    by : (x y : Bool) → eqb b (ch "\"") ≡ x → eqb b (ch "'") ≡ y → BothGo base 0
        (cond x (packs (Octets.Text b) 0) (cond y (packs (Octets.Text b) 0) (on_digit (hex_of b) (packs Octets.Low 0) Stops)))
        (cond x (Scan.takes (Binaries.text b [])) (cond y (Scan.takes (Binaries.text b []))
        (Binaries.on_digit (hex_of b) (Binaries.low []) (Scan.stops []))))
    by true y h k = let e = eqb-true b (ch "\"") h in takes (text {q = b} (omega arith) (omega arith) refl)
    by false true h k = let e = eqb-true b (ch "'") k in takes (text {q = b} (omega arith) (omega arith) refl)
    by false false h k = pair_alike base 0 (hex_of b) [] refl

after_alike : (base n p b : ℕ) (acc : List ℕ) → length acc ≡ n → BothGo base n (on_pair b) (Binaries.scan p (Binaries.pairs acc) b)
unfolding on_pair Binaries.scan
after_alike base n p b acc e = by (eqb b (ch "."))
  where
    by : (x : Bool) → BothGo base n (cond x (packs Octets.Dot 0) (on_digit (hex_of b) (packs Octets.Low 0) Stops))
        (cond x (Scan.takes (Binaries.dot acc)) (Binaries.on_digit (hex_of b) (Binaries.low acc) (Scan.stops acc)))
    by true = takes (dot (still acc n e))
    by false = pair_alike base n (hex_of b) acc e

pub binary_alike : (base : ℕ) (o : OctetsOf.Octets) (st : Binaries.St) (n p b : ℕ) → BinaryIs (Packing o) st n
    → Alike BinaryIs (λ u m. length u ≡ m) base n (next_octets o (base + p) b) (Binaries.scan p st b)
unfolding next_octets Binaries.scan
binary_alike base o st n p b dollar = dollar_alike base p b
binary_alike base o st n p b (text {q = q} {acc = acc} l h e) = text_alike base n p q b l h acc e
binary_alike base o st n p b (escape {q = q} {acc = acc} l h e) = escape_alike base n p q b l h acc e
binary_alike base o st n p b (hex {q = q} {acc = acc} l h e) =
    more_alike base n (hex_of b) p 0 (Octets.HexLow q) (Binaries.hex_low q acc) (hex_low l h (still acc n e))
binary_alike base o st n p b (hex_low {q = q} {v = v} {acc = acc} l h e) =
    more_alike base n (hex_of b) p 1 (Octets.Text q) (λ x. Binaries.text q (acc ++ ((16 * v + x) ∷ []))) (text l h (longer acc _ n e))
binary_alike base o st n p b (low {v = v} {acc = acc} e) =
    more_alike base n (hex_of b) p 1 Octets.Pair (λ x. Binaries.pairs (acc ++ ((16 * v + x) ∷ []))) (pair (longer acc _ n e))
binary_alike base o st n p b (pair {acc = acc} e) = after_alike base n p b acc e
binary_alike base o st n p b (dot {acc = acc} e) =
    more_alike base n (hex_of b) p 0 Octets.Low (Binaries.low acc) (low (still acc n e))
binary_alike base o st n p b (done {acc = acc} e) = stops e

pub binary_begin : (base p : ℕ)
    → Alike BinaryIs (λ u m. length u ≡ m) base 0 (Takes (Packing Octets.Dollar) 0) (Binaries.scan p Binaries.begin (ch "$"))
unfolding Binaries.scan
binary_begin base p = takes dollar

pub binary_end : (m : Mode) (st : Binaries.St) (n p : ℕ) → BinaryIs m st n → Binaries.scan p st over ≡ Binaries.scan p st 0
unfolding Binaries.scan Binaries.on_text Binaries.on_short Binaries.on_digit hex_of short_of
binary_end m st n p dollar = refl
binary_end m st n p (text {q = q} l h e) = rw (ne_eqb over q (omega arith), ne_eqb 0 q (omega arith))
binary_end m st n p (escape l h e) = refl
binary_end m st n p (hex l h e) = refl
binary_end m st n p (hex_low l h e) = refl
binary_end m st n p (low e) = refl
binary_end m st n p (pair e) = refl
binary_end m st n p (dot e) = refl
binary_end m st n p (done e) = refl

digit_bounded : (n x : ℕ) (o o' : Out) → Bounded n o → Bounded n o' → Bounded n (on_digit x o o')
unfolding on_digit
digit_bounded n x o o' h k = by (ltb x no_digit)
  where
    by : (y : Bool) → Bounded n (cond y o o')
    by true = h
    by false = k

pub octets_bounded : (n : ℕ) (o : OctetsOf.Octets) (p b : ℕ) → Bounded n (next_octets o p b)
unfolding next_octets on_dollar on_text on_escape on_short on_pair sane_mode
octets_bounded n Octets.Dollar p b = by (eqb b (ch "\"")) (eqb b (ch "'"))
  where
    by : (x y : Bool) → Bounded n
        (cond x (packs (Octets.Text b) 0) (cond y (packs (Octets.Text b) 0) (on_digit (hex_of b) (packs Octets.Low 0) Stops)))
    by true y = (refl, omega arith)
    by false true = (refl, omega arith)
    by false false = digit_bounded n (hex_of b) (packs Octets.Low 0) Stops (refl, omega arith) tt
octets_bounded n (Octets.Text q) p b = by (eqb b (ch "\\")) (eqb b q) (ltb b 0x20) (leb b 0x7E)
  where
    by : (x y z w : Bool) → Bounded n
        (cond x (packs (Octets.Escape q) 0) (cond y (packs Octets.Done 0)
        (cond z (Breaks (NotGrammar p)) (cond w (packs (Octets.Text q) 1) (Breaks (NotGrammar p))))))
    by true y z w = (refl, omega arith)
    by false true z w = (refl, omega arith)
    by false false true w = tt
    by false false false true = (refl, omega arith)
    by false false false false = tt
octets_bounded n (Octets.Escape q) p b = by (eqb b (ch "x")) (ltb (short_of b) no_short)
  where
    by : (x y : Bool) → Bounded n (cond x (packs (Octets.Hex q) 0) (cond y (packs (Octets.Text q) 1) (Breaks (NotGrammar p))))
    by true y = (refl, omega arith)
    by false true = (refl, omega arith)
    by false false = tt
octets_bounded n (Octets.Hex q) p b = digit_bounded n (hex_of b) (packs (Octets.HexLow q) 0) (Breaks (NotGrammar p)) (refl, omega arith) tt
octets_bounded n (Octets.HexLow q) p b = digit_bounded n (hex_of b) (packs (Octets.Text q) 1) (Breaks (NotGrammar p)) (refl, omega arith) tt
octets_bounded n Octets.Low p b = digit_bounded n (hex_of b) (packs Octets.Pair 1) (Breaks (NotGrammar p)) (refl, omega arith) tt
octets_bounded n Octets.Pair p b = by (eqb b (ch "."))
  where
    by : (x : Bool) → Bounded n (cond x (packs Octets.Dot 0) (on_digit (hex_of b) (packs Octets.Low 0) Stops))
    by true = (refl, omega arith)
    by false = digit_bounded n (hex_of b) (packs Octets.Low 0) Stops (refl, omega arith) tt
octets_bounded n Octets.Dot p b = digit_bounded n (hex_of b) (packs Octets.Low 0) (Breaks (NotGrammar p)) (refl, omega arith) tt
octets_bounded n Octets.Done p b = tt
