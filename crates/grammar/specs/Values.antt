-- Values, arrays and objects, and the whole text (docs/FORMAT.md, 1.2 and 7). Assumes nothing.
use Rattle.std.specs.Prelude.{ℕ, ◌≤◌, ◌≡◌, Bool, true, false, List, [], ◌∷◌, ◌++◌, length}
use Rattle.meaning.specs.declared.Number as N
use Rattle.meaning.specs.declared.Time as T
use Rattle.meaning.specs.Meaning.{Meaning, Meanings, Members}
use Rattle.meaning.specs.Once.{once}
use Rattle.meaning.specs.Limits.{depth_limit, text_limit}
use Rattle.meaning.specs.Letters.{letters, ch}
use Rattle.grammar.specs.Checks.{Checked, Room}
use Rattle.grammar.specs.Comments.{Ws, Last}
use Rattle.grammar.specs.Numbers.{Number}
use Rattle.grammar.specs.Strings.{String}
use Rattle.grammar.specs.Times.{TimeValue}
use Rattle.grammar.specs.Binary.{Binary}
use Rattle.grammar.specs.Keys.{Key}

-- what an array or an object holds
pub data Inside : Type 0 where
  elements : Meanings → Inside
  members : Members → Inside

-- end-array = %x5D ; end-object = %x7D
pub data Closes : Inside → ℕ → Type 0 where
  bracket : {x : Meanings} → Closes (elements x) (ch "]")
  brace : {x : Members} → Closes (members x) (ch "}")

-- Every rule below takes d: how many arrays and objects may still open. RFC 8259 lets ws stand on both sides of its
-- brackets, colons and commas: here it stands before an item, a comma and a closing bracket, and on both sides of a
-- colon.
--
-- JAXN prints the two rules that stand over `Value` as one line each. Here each is cut behind its opening bracket and
-- behind each comma (`Rest`, `After`), and both are one, over what is inside so far (`Item`). So the closing bracket,
-- the commas and the one that may follow the last item are said once; and whoever stands in the middle of a text, as
-- a refusal's place does (`Left` of Refused), finds in the rule what is inside up to there. A rule over whole lists
-- would need that beside it.
mutual
  -- value = false / null / true / object / array / number / string / binary / time-value
  -- array = begin-array [ value *( value-separator value ) value-sep-opt ] end-array
  -- object = begin-object [ member *( value-separator member ) value-sep-opt ] end-object
  pub data Value (k : Bool) : ℕ → List ℕ → Meaning → Type 0 where
    null_word : {d : ℕ} → Value k d (letters "null") Meaning.null
    true_word : {d : ℕ} → Value k d (letters "true") (Meaning.bool true)
    false_word : {d : ℕ} → Value k d (letters "false") (Meaning.bool false)
    number : {d : ℕ} {a : List ℕ} {n : N.Number} → Number k a n → Value k d a (Meaning.number n)
    string : {d : ℕ} {a u : List ℕ} → String k a u → Value k d a (Meaning.string u)
    binary : {d : ℕ} {a u : List ℕ} → Binary a u → Value k d a (Meaning.binary u)
    time_value : {d : ℕ} {a : List ℕ} {t : T.Time} → TimeValue k a t → Value k d a (Meaning.time t)
    array : {d e : ℕ} {a : List ℕ} {x : Meanings} → Room k d e → Rest k e (elements Meanings.none) a (elements x)
        → Value k d (ch "[" ∷ a) (Meaning.array x)
    object : {d e : ℕ} {a : List ℕ} {x : Members} → Room k d e → Rest k e (members Members.bare) a (members x)
        → Value k d (ch "{" ∷ a) (Meaning.object x)

  -- `Rest k d x a y`: after an opening bracket or a comma, with x inside so far, the bytes a up to the closing
  -- bracket make it y.
  pub data Rest (k : Bool) : ℕ → Inside → List ℕ → Inside → Type 0 where
    close : {d b : ℕ} {x : Inside} {w : List ℕ} → Ws w → Closes x b → Rest k d x (w ++ (b ∷ [])) x
    item : {d : ℕ} {x y z : Inside} {w a b : List ℕ} → Ws w → Item k d x a y → After k d y b z
        → Rest k d x (w ++ (a ++ b)) z

  -- the same after an element or a member
  pub data After (k : Bool) : ℕ → Inside → List ℕ → Inside → Type 0 where
    end : {d b : ℕ} {x : Inside} {w : List ℕ} → Ws w → Closes x b → After k d x (w ++ (b ∷ [])) x
    comma : {d : ℕ} {x y : Inside} {w a : List ℕ} → Ws w → Rest k d x a y → After k d x (w ++ (ch "," ∷ a)) y

  -- one more element, or one more member
  -- member = key name-separator value
  pub data Item (k : Bool) : ℕ → Inside → List ℕ → Inside → Type 0 where
    element : {d : ℕ} {x : Meanings} {a : List ℕ} {m : Meaning} → Value k d a m
        → Item k d (elements x) a (elements (Meanings.more x m))
    member : {d : ℕ} {x : Members} {c u v w a : List ℕ} {m : Meaning} → Key k c u → Ws v → Ws w → Value k d a m
        → Item k d (members x) (c ++ (v ++ (ch ":" ∷ (w ++ a)))) (members (Members.member x u m))

-- Layout, one value, layout; at most 16,777,216 bytes, and at most 64 arrays and objects open. Keys may repeat.
pub data Loose (k : Bool) : List ℕ → Meaning → Type 0 where
  text : {w a v : List ℕ} {m : Meaning} → Ws w → Value k depth_limit a m → Last v
      → Checked k (length (w ++ (a ++ v)) ≤ text_limit) → Loose k (w ++ (a ++ v)) m

-- A text is all of this, and no object in it holds two equal keys.
pub record Text (t : List ℕ) (m : Meaning) : Type 0 where
  pub loose : Loose true t m
  pub single : once m ≡ true
