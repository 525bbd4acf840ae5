-- The canonical text of every good meaning, and the one filed before, is derived with that meaning. Assumes nothing.
use Prim.Native.Nat.{ℕ, zero, suc, ◌+◌, ◌≤◌, ◌<◌}
use mathlib.Core.Path.{◌≡◌, refl, sym, ap, ◌∙◌, subst}
use mathlib.Core.Bool.{Bool, true, false, cond}
use mathlib.Core.List.{List, [], ◌∷◌, ◌++◌, append_assoc, append-nil}
use native.Mathlib.Omega.{arith}
use lib.Dec.{leb}
use lib.ListN.{length}
use borrow.Author.Tests.{leb-true, leb-false}
use Rattle.meaning.specs.declared.Number.{Number as NumberMeant}
use Rattle.meaning.specs.Letters.{letters, ch}
use Rattle.meaning.specs.Limits.{depth_limit, text_limit}
use Rattle.meaning.specs.Meaning.{Meaning, Meanings, Members, null, bool, number, string, binary, time, array, object, none, more, bare, member}
use Rattle.meaning.specs.Good.{GoodNumber, GoodParts, GoodElements, GoodMembers, most, depth, elements_depth, members_depth, Good}
use Rattle.meaning.specs.Canonical.{quoted, number_text, elements_comma, members_comma, text_with, elements_with, members_with, canonical}
use Rattle.meaning.specs.Filed.{filed_number, filed}
use Rattle.grammar.specs.Checks.{Room}
use Rattle.grammar.specs.Comments.{Ws, Last}
use Rattle.grammar.specs.Keys.{Key}
use Rattle.grammar.specs.Numbers.{Number}
use Rattle.grammar.specs.Values.{Inside, elements, members, Closes, Value, Rest, After, Item, Loose, Text}
use Rattle.grammar.proofs.Canonical.Numbers.{number_derived, filed_number_derived}
use Rattle.grammar.proofs.Canonical.Strings.{string_derived, binary_derived}
use Rattle.grammar.proofs.Canonical.Times.{time_derived}
pub mod Digits
pub mod Numbers
pub mod Strings
pub mod Times

-- ---- arrays and objects alike

-- the bytes p lead from x inside to y inside, where an element or a member is next
abbrev Before : ℕ → Inside → List ℕ → Inside → Type 0
Before d x p y = (b : List ℕ) (z : Inside) → Rest true d y b z → Rest true d x (p ++ b) z

start : {d : ℕ} {x : Inside} → Before d x [] x
start b z r = r

-- one more, and a comma
further : {d : ℕ} {x y z : Inside} (p a : List ℕ) → Before d x p y → Item true d y a z → Before d x (p ++ a ++ letters ",") z
further p a f i b z r = simp append_assoc (f (a ++ (ch "," ∷ b)) z (Rest.item Ws.none i (After.comma Ws.none r)))

-- one more, and the closing bracket
closing : {d c : ℕ} {x y z : Inside} (p a : List ℕ) → Before d x p y → Item true d y a z → Closes z c → Rest true d x (p ++ a ++ (c ∷ [])) z
closing {c = c} {z = z} p a f i e = simp append_assoc (f (a ++ (c ∷ [])) z (Rest.item Ws.none i (After.end Ws.none e)))

-- ---- depth

most_left : (a b d : ℕ) → most a b ≤ d → a ≤ d
unfolding most
most_left a b d = go (leb a b) refl
  where
    go : (t : Bool) → leb a b ≡ t → cond t b a ≤ d → a ≤ d
    go true e h = omega (arith, leb-true a b e)
    go false e h = h

most_right : (a b d : ℕ) → most a b ≤ d → b ≤ d
unfolding most
most_right a b d = go (leb a b) refl
  where
    go : (t : Bool) → leb a b ≡ t → cond t b a ≤ d → b ≤ d
    go true e h = h
    go false e h = omega (arith, leb-false a b e)

-- a container takes one
deeper : {n : ℕ} (P : ℕ → Type 0) → ((e : ℕ) → n ≤ e → P (suc e)) → (d : ℕ) → 1 + n ≤ d → P d
deeper P f zero h = absurd (omega arith)
deeper P f (suc e) h = f e (omega arith)

-- ---- values

word : (b : Bool) {d : ℕ} → Value true d (cond b (letters "true") (letters "false")) (bool b)
word true = Value.true_word
word false = Value.false_word

regroup : (p a b c : List ℕ) → p ++ (a ++ b ++ c) ≡ p ++ a ++ b ++ c
regroup p a b c = simp append_assoc

-- with any text f of a number that is derived
module _ (f : NumberMeant → List ℕ) (numbers : (n : NumberMeant) → GoodNumber n → Number true (f n) n) where
  member_derived : {d : ℕ} (ms : Members) {k : List ℕ} {m : Meaning} → Key true (quoted k) k → Value true d (text_with f m) m
      → Item true d (members ms) (quoted k ++ letters ":" ++ text_with f m) (members (member ms k m))
  member_derived ms k v = simp append_assoc (Item.member k Ws.none Ws.none v)

  mutual
    unfolding text_with depth elements_depth members_depth

    value_with : (m : Meaning) → GoodParts m → (d : ℕ) → depth m ≤ d → Value true d (text_with f m) m
    value_with null g d h = Value.null_word
    value_with (bool b) g d h = word b
    value_with (number n) g d h = Value.number (numbers n g)
    value_with (string s) g d h = Value.string (string_derived g)
    value_with (binary s) g d h = Value.binary (binary_derived s g)
    value_with (time t) g d h = Value.time_value (time_derived t g)
    value_with (array ms) g d h = deeper (λ d. Value true d (text_with f (array ms)) (array ms)) (λ e l. Value.array Room.falls (elements_whole ms g e l)) d h
    value_with (object ms) g d h = deeper (λ d. Value true d (text_with f (object ms)) (object ms)) (λ e l. Value.object Room.falls (members_whole ms g e l)) d
        h

    elements_before : (ms : Meanings) → GoodElements ms → (d : ℕ) → elements_depth ms ≤ d
        → Before d (elements none) (elements_with f ms ++ elements_comma ms) (elements ms)
    elements_before none g d h = start
    elements_before (more ms m) g d h =
        further (elements_with f ms ++ elements_comma ms) (text_with f m)
        (elements_before ms g.0 d (most_left (elements_depth ms) (depth m) d h))
        (Item.element (value_with m g.1 d (most_right (elements_depth ms) (depth m) d h)))

    elements_whole : (ms : Meanings) → GoodElements ms → (d : ℕ) → elements_depth ms ≤ d
        → Rest true d (elements none) (elements_with f ms ++ letters "]") (elements ms)
    elements_whole none g d h = Rest.close Ws.none Closes.bracket
    elements_whole (more ms m) g d h =
        closing (elements_with f ms ++ elements_comma ms) (text_with f m)
        (elements_before ms g.0 d (most_left (elements_depth ms) (depth m) d h))
        (Item.element (value_with m g.1 d (most_right (elements_depth ms) (depth m) d h))) Closes.bracket

    members_before : (ms : Members) → GoodMembers ms → (d : ℕ) → members_depth ms ≤ d
        → Before d (members bare) (members_with f ms ++ members_comma ms) (members ms)
    members_before bare g d h = start
    members_before (member ms k m) g d h =
        subst (λ (s : List ℕ). Before d (members bare) (s ++ letters ",") (members (member ms k m)))
        (regroup (members_with f ms ++ members_comma ms) (quoted k) (letters ":") (text_with f m))
        (further (members_with f ms ++ members_comma ms) (quoted k ++ letters ":" ++ text_with f m)
        (members_before ms g.0 d (most_left (members_depth ms) (depth m) d h))
        (member_derived ms (Key.string (string_derived g.1)) (value_with m g.2 d (most_right (members_depth ms) (depth m) d h))))

    members_whole : (ms : Members) → GoodMembers ms → (d : ℕ) → members_depth ms ≤ d
        → Rest true d (members bare) (members_with f ms ++ letters "}") (members ms)
    members_whole bare g d h = Rest.close Ws.none Closes.brace
    members_whole (member ms k m) g d h =
        subst (λ (s : List ℕ). Rest true d (members bare) (s ++ letters "}") (members (member ms k m)))
        (regroup (members_with f ms ++ members_comma ms) (quoted k) (letters ":") (text_with f m))
        (closing (members_with f ms ++ members_comma ms) (quoted k ++ letters ":" ++ text_with f m)
        (members_before ms g.0 d (most_left (members_depth ms) (depth m) d h))
        (member_derived ms (Key.string (string_derived g.1)) (value_with m g.2 d (most_right (members_depth ms) (depth m) d h))) Closes.brace)

  -- such a text of every good meaning, within the limit, is a text with that meaning
  text_with_lem : (m : Meaning) → Good m → length (text_with f m) ≤ text_limit → Text (text_with f m) m
  text_with_lem m g h = record {
    loose = rw (← append-nil (text_with f m)) (Loose.text Ws.none (value_with m g.parts depth_limit g.shallow) (Last.ended Ws.none)
        (rw append-nil h));
    single = g.single;
  }

pub value_derived : (m : Meaning) → GoodParts m → (d : ℕ) → depth m ≤ d → Value true d (canonical m) m
value_derived = value_with number_text number_derived

-- `canonical` of every good meaning, within the text's limit, is a text with that meaning.
pub text_derived : (m : Meaning) → Good m → length (canonical m) ≤ text_limit → Text (canonical m) m
text_derived = text_with_lem number_text number_derived

-- so is `filed`
pub filed_derived : (m : Meaning) → Good m → length (filed m) ≤ text_limit → Text (filed m) m
filed_derived = text_with_lem filed_number filed_number_derived
