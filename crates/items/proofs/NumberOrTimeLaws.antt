-- The scanner of a number or a time value over a text, from a place on. Assumes nothing.
use Rattle.std.specs.Prelude.{Err, IsErrAnd}
use Rattle.std.proofs.lemmas.Result.{err_from_is_err_and}
use Rattle.meaning.specs.declared.Refusal.TheVariants as Refused
use Rattle.items.specs.declared.NotGrammar.{NotGrammar}
use Rattle.std.specs.Char.{IsNotAsciiDigit}
use Prim.Native.Nat.{ℕ, suc, ◌+◌, ◌≤◌, ◌<◌}
use mathlib.Core.Path.{◌≡◌, refl, subst}
use mathlib.Core.Bool.{Bool, true, false}
use mathlib.Core.Logic.{◌⊎◌, inl, inr}
use mathlib.Core.List.{List}
use native.Mathlib.Omega.{arith}
use native.Mathlib.Numerals.{add-one}
use lib.Dec.{ltb, leb}
use lib.ListN.{length, get_or, drop, drop_of_length-le}
use lib.Seq.{drop-cons}
use borrow.Author.Tests.{ltb-true, ltb-false, leb-true, leb-false}
use Rattle.meaning.specs.Letters.{ch}
use Rattle.meaning.specs.Meaning.{Meaning}
use Rattle.meaning.specs.declared.Refusal.{Refusal}
use Rattle.machine.specs.Scan.{takes, stops, breaks, Ran, unended, goes_on, ran, over as textEnd}
use Rattle.machine.specs.Numeric.{St, Res, scan}
use Rattle.machine.proofs.Runs.{NoDigit}
use Rattle.items.specs.Between.Places.{byte_at}
use Rattle.items.proofs.PlacesLaws.{byte_in, byte_out}
use Rattle.items.specs.Between.NumberOrTime.{Scanned, Tells, Reads, Closes, IsDigit, Edge}

-- ---- the byte at a place

pub edge_none : {s : List ℕ} {i : ℕ} → Edge s i → NoDigit (byte_at s i)
edge_none {s} {i} e = go (ltb i (length s)) refl
  where
    in_text : i < length s → Edge s i → NoDigit (byte_at s i)
    in_text h (Edge.ends l) = absurd (omega arith)
    in_text h (Edge.under l) = rw (byte_in s i h) (NoDigit.under l)
    in_text h (Edge.past l) = rw (byte_in s i h) (NoDigit.past l)

    go : (x : Bool) → ltb i (length s) ≡ x → NoDigit (byte_at s i)
    go true k = in_text (ltb-true i (length s) k) e
    go false k = rw (byte_out s i (ltb-false i (length s) k)) (NoDigit.past {b = textEnd} (omega arith))

pub no_digit_lem : {b : ℕ} → NoDigit b → IsDigit b → ⊥
no_digit_lem (NoDigit.under h) i = omega arith
no_digit_lem (NoDigit.past h) i = omega arith

pub digit? : (b : ℕ) → IsDigit b ⊎ NoDigit b
digit? b = go (ltb b (ch "0")) refl (leb b (ch "9")) refl
  where
    go : (x : Bool) → ltb b (ch "0") ≡ x → (y : Bool) → leb b (ch "9") ≡ y → IsDigit b ⊎ NoDigit b
    go true e y f = inr (NoDigit.under (ltb-true b (ch "0") e))
    go false e true f = inl (record { low = ltb-false b (ch "0") e; high = leb-true b (ch "9") f })
    go false e false f = inr (NoDigit.past (leb-false b (ch "9") f))

-- a byte that is none of the digits
pub no_digit_there : {s : List ℕ} {i : ℕ} → IsNotAsciiDigit (get_or s i 0) → Edge s i
no_digit_there (inl h) = Edge.under h
no_digit_there (inr h) = Edge.past h

-- ---- one byte

ran_end : (s : List ℕ) (i : ℕ) (st : St) → length s ≤ i → ran scan i st (drop i s) ≡ goes_on scan i (λ t. unended) (scan i st textEnd)
unfolding ran
ran_end s i st h = rw (drop_of_length-le s h)

ran_at_lem : (s : List ℕ) (i : ℕ) (st : St) → i < length s → ran scan i st (drop i s)
    ≡ goes_on scan i (λ t. ran scan (suc i) t (drop (suc i) s)) (scan i st (get_or s i 0))
unfolding ran
ran_at_lem s i st h = rw (drop-cons s i 0)

-- what the byte at i, or the text's end, does
goes_at : (s : List ℕ) (i : ℕ) (st : St) → (f : St → Ran Meaning) × (ran scan i st (drop i s) ≡ goes_on scan i f (scan i st (byte_at s i)))
goes_at s i st = go (ltb i (length s)) refl
  where
    go : (x : Bool) → ltb i (length s) ≡ x → (f : St → Ran Meaning) × (ran scan i st (drop i s) ≡ goes_on scan i f (scan i st (byte_at s i)))
    go true k = let h = ltb-true i (length s) k in ((λ t. ran scan (suc i) t (drop (suc i) s)), rw (byte_in s i h) (ran_at_lem s i st h))
    go false k = let h = ltb-false i (length s) k in ((λ t. unended), rw (byte_out s i h) (ran_end s i st h))

-- the byte is taken
pub took : {s : List ℕ} {i : ℕ} {st : St} {r : Scanned} (t : St) → i < length s → scan i st (get_or s i 0) ≡ takes t → Reads s (i + 1) t r → Reads s i st r
took {s} {i} {st} {r} t h e k = record { tells = rw (ran_at_lem s i st h, e) (subst (λ (j : ℕ). Tells (ran scan j t (drop j s)) r) (add-one i) k.tells) }

-- no answer tells of an item that does not end
never : {x : Ran Meaning} {r : Scanned} → Tells x r → x ≡ unended → ⊥
never (Tells.item k) e = let z : ◌≡◌ {A = ℕ} 0 1 = cc in omega arith
never Tells.refused e = let z : ◌≡◌ {A = ℕ} 0 1 = cc in omega arith

-- the item ends here
pub halts : {s : List ℕ} {i : ℕ} {st : St} {r : Scanned} (o : Res) → scan i st (byte_at s i) ≡ o → Closes i o r → Reads s i st r
halts {s} {i} {st} {r} o e k = record { tells = rw ((goes_at s i st).1, e) (go o k.tells) }
  where
    f : St → Ran Meaning
    f = (goes_at s i st).0

    go : (o : Res) → Tells (goes_on scan i (λ t. unended) o) r → Tells (goes_on scan i f o) r
    go (takes t) x = absurd (never x refl)
    go (stops v) x = x
    go (breaks v) x = x

pub breaks_at : {s : List ℕ} {i : ℕ} {st : St} {e : Refusal} → scan i st (byte_at s i) ≡ breaks e → Reads s i st (Err e)
breaks_at {e = e} h = halts (breaks e) h (record { tells = Tells.refused })

-- two states that do the same with the byte, or at the end
pub same : {s : List ℕ} {i : ℕ} {st : St} {r : Scanned} (t : St) → scan i st (byte_at s i) ≡ scan i t (byte_at s i) → Reads s i t r → Reads s i st r
same {s} {i} {st} {r} t e k = record { tells = go (ltb i (length s)) refl }
  where
    go : (x : Bool) → ltb i (length s) ≡ x → Tells (ran scan i st (drop i s)) r
    go true x =
        let h = ltb-true i (length s) x in
        let f : scan i st (get_or s i 0) ≡ scan i t (get_or s i 0) = rw (byte_in s i h) at e in
        rw (ran_at_lem s i st h, f, ← ran_at_lem s i t h) k.tells
    go false x =
        let h = ltb-false i (length s) x in
        let f : scan i st textEnd ≡ scan i t textEnd = rw (byte_out s i h) at e in
        rw (ran_end s i st h, f, ← ran_end s i t h) k.tells

-- where a `?` hands on the place of a byte that no rule allows
pub handed_on : {s : List ℕ} {i : ℕ} {st : St} (r : Scanned) {e : NotGrammar} → IsErrAnd r (λ x. x ≡ Refused.NotGrammar e.place)
    → Reads s i st (Err (Refused.NotGrammar e.place)) → Reads s i st r
handed_on r h k = let p = err_from_is_err_and r h in rw (p.1, p.2) k

pub closes_by : {i : ℕ} {r : Scanned} (o p : Res) → o ≡ p → Closes i p r → Closes i o r
closes_by {i} {r} o p e k = rw e k
