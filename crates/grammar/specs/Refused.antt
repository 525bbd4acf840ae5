-- Which refusal of 1 to 7 or 15 a text is given, and where, by the grammar alone (docs/FORMAT.md, 10). The bare grammar
-- is the grammar with its checks left out (Checks). Assumes nothing.
use Rattle.std.specs.Prelude.{ℕ, zero, suc, ◌+◌, ◌≤◌, ◌<◌, ◌≡◌, true, false, List, [], ◌∷◌, ◌++◌, length}
use Rattle.rules.specs.Rfc3629.{Octets, Fault}
use Rattle.meaning.specs.Letters.{letters, ch}
use Rattle.meaning.specs.Limits.{depth_limit, text_limit}
use Rattle.meaning.specs.Meaning.{Meaning, Meanings, Members}
use Rattle.meaning.specs.Once.{held}
use Rattle.meaning.specs.declared.Number as N
use Rattle.meaning.specs.declared.Time as T
use Rattle.meaning.specs.declared.Refusal.{Refusal}
use Rattle.meaning.specs.declared.Refusal.TheVariants.{TextTooLong, NotUtf8, NotGrammar}
use Rattle.meaning.specs.declared.Refusal.TheVariants.{BadEscape, BadTime, BadNumber, TooDeep, RepeatedKey}
use Rattle.grammar.specs.Characters.{Among}
use Rattle.grammar.specs.Comments.{Ws}
use Rattle.grammar.specs.Numbers.{Number}
use Rattle.grammar.specs.Times.{TimeValue}
use Rattle.grammar.specs.Strings.{Quote, mark, Chars, Escape, unescaped, StringPart}
use Rattle.grammar.specs.Keys.{Key}
use Rattle.grammar.specs.Values.{Inside, elements, members, Item, Loose}

-- ---- 3: "first byte no rule allows there, or the text's length"

-- some text of the bare grammar begins with a
pub data Opens (a : List ℕ) : Type 0 where
  opens : (s : List ℕ) (m : Meaning) → Loose false (a ++ s) m → Opens a

-- `Stuck t p`: the bytes before p begin such a text, and with the byte at p they begin none;
-- or p is the length, and t begins such a text and is none itself
pub data Stuck : List ℕ → ℕ → Type 0 where
  byte : (a : List ℕ) (b : ℕ) (r : List ℕ) → Opens a → (Opens (a ++ (b ∷ [])) → ⊥) → Stuck (a ++ (b ∷ r)) (length a)
  end : (t : List ℕ) → Opens t → ((m : Meaning) → Loose false t m → ⊥) → Stuck t (length t)

-- ---- 4 to 7: the first item that fails its check

-- what begins next: a value; an element or a key, with this inside so far; one more string part
pub data Spot : Type 0 where
  value part : Spot
  among : Inside → Spot

-- `Left d s l`: left of s stand the bytes l, each item in them whole and within its checks; d more arrays and objects
-- may open
pub data Left : ℕ → Spot → List ℕ → Type 0 where
  text : {w : List ℕ} → Ws w → Left depth_limit value w
  array : {d : ℕ} {l w : List ℕ} → Left (suc d) value l → Ws w
      → Left d (among (elements Meanings.none)) (l ++ (ch "[" ∷ w))
  object : {d : ℕ} {l w : List ℕ} → Left (suc d) value l → Ws w
      → Left d (among (members Members.bare)) (l ++ (ch "{" ∷ w))
  element : {d : ℕ} {x : Meanings} {l : List ℕ} → Left d (among (elements x)) l → Left d value l
  comma : {d : ℕ} {x y : Inside} {l a v w : List ℕ} → Left d (among x) l → Item true d x a y → Ws v → Ws w
      → Left d (among y) (l ++ (a ++ (v ++ (ch "," ∷ w))))
  colon : {d : ℕ} {x : Members} {l c u v w : List ℕ} → Left d (among (members x)) l → Key true c u → Ws v → Ws w
      → Left d value (l ++ (c ++ (v ++ (ch ":" ∷ w))))
  plus : {d : ℕ} {s : Spot} {l a u v w : List ℕ} → Left d s l → StringPart true a u → Ws v → Ws w
      → Left d part (l ++ (a ++ (v ++ (ch "+" ∷ w))))

-- a number or a time value of the bare grammar
pub data Numeric : List ℕ → Type 0 where
  number : {a : List ℕ} {n : N.Number} → Number false a n → Numeric a
  time_value : {a : List ℕ} {t : T.Time} → TimeValue false a t → Numeric a

-- `TakesNone x r`: of the bytes r the item x takes none. No rule lets it take the next; a space is taken only with the
-- byte after it
pub data TakesNone : List ℕ → List ℕ → Type 0 where
  over : {x : List ℕ} → TakesNone x []
  byte : {x : List ℕ} {b : ℕ} {r : List ℕ} → ((y : List ℕ) → Numeric (x ++ (b ∷ y)) → ⊥) → TakesNone x (b ∷ r)
  space : {x r : List ℕ} → TakesNone (x ++ letters " ") r → TakesNone x (ch " " ∷ r)

pub data Opening : ℕ → Type 0 where
  bracket : Opening (ch "[")
  brace : Opening (ch "{")

pub data ItemFault : List ℕ → Refusal → Type 0 where
  -- a part that closes, good up to a backslash behind which no good escape stands: at that backslash
  escape : {d : ℕ} {s : Spot} {l a u b v : List ℕ} {q : Quote} (r : List ℕ) → Left d s l
      → Chars (Among unescaped) (Escape true) q a u
      → Chars (Among unescaped) (Escape false) q (ch "\\" ∷ b) v
      → ((e c w : List ℕ) → b ≡ e ++ c → Escape true e w → ⊥)
      → ItemFault (l ++ (mark q ∷ (a ++ (ch "\\" ∷ (b ++ (mark q ∷ r)))))) (BadEscape (length l + 1 + length a))
  -- a time value, and a number, that is one in the bare grammar only: at its first byte
  time : {d : ℕ} {l x r : List ℕ} {t : T.Time} → Left d value l → TimeValue false x t
      → ((u : T.Time) → TimeValue true x u → ⊥) → TakesNone x r → ItemFault (l ++ (x ++ r)) (BadTime (length l))
  number : {d : ℕ} {l x r : List ℕ} {n : N.Number} → Left d value l → Number false x n
      → ((m : N.Number) → Number true x m → ⊥) → TakesNone x r → ItemFault (l ++ (x ++ r)) (BadNumber (length l))
  -- a bracket where none may open any more
  depth : {b : ℕ} {l : List ℕ} (r : List ℕ) → Left zero value l → Opening b
      → ItemFault (l ++ (b ∷ r)) (TooDeep (length l))

-- ---- 3 to 7. All up to the end of a faulty item is grammar, so a fault comes before any 3.
pub data Refused (t : List ℕ) : Refusal → Type 0 where
  fault : {r : Refusal} → ItemFault t r → Refused t r
  grammar : {p : ℕ} → ((r : Refusal) → ItemFault t r → ⊥) → Stuck t p → Refused t (NotGrammar p)

-- ---- 1, then 2 over the whole text, then 3 to 7 from left to right
pub data LooseRefused (t : List ℕ) : Refusal → Type 0 where
  too_long : text_limit < length t → LooseRefused t TextTooLong
  not_utf8 : {k : ℕ} → length t ≤ text_limit → Fault t k → LooseRefused t (NotUtf8 k)
  refused : {r : Refusal} → length t ≤ text_limit → Octets t → Refused t r → LooseRefused t r

-- ---- 15: "first byte of the first key in the text that repeats an earlier one"

-- `Repeats t p`: at p begins a key, with its colon, of an object whose members so far have that key already
pub data Repeats : List ℕ → ℕ → Type 0 where
  key : {d : ℕ} {x : Members} {l c u v : List ℕ} (r : List ℕ) → Left d (among (members x)) l → Key true c u → Ws v
      → held u x ≡ true → Repeats (l ++ (c ++ (v ++ (ch ":" ∷ r)))) (length l)

-- ---- 1 to 7; and 15 where none of them is given
pub data TextRefused (t : List ℕ) : Refusal → Type 0 where
  loose : {r : Refusal} → LooseRefused t r → TextRefused t r
  repeated : {m : Meaning} {p : ℕ} → Loose true t m → Repeats t p → ((q : ℕ) → Repeats t q → p ≤ q)
      → TextRefused t (RepeatedKey p)
