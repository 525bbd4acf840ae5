-- From how the scanner goes on to the promise of the whole: the item's meaning and the place after it, or the refusal. Assumes nothing.
use Rattle.std.specs.Prelude.{Ok, Err}
use mathlib.Core.Path.{◌≡◌, refl}
use mathlib.Core.List.{List, [], ◌∷◌}
use Prim.Native.Nat.{ℕ, suc, ◌+◌, ◌≤◌, ◌<◌}
use native.Mathlib.Omega.{arith}
use lib.ListN.{length, drop, length-drop}
use Rattle.meaning.specs.declared.Refusal.{Refusal}
use Rattle.meaning.specs.Meaning.{Meaning}
use Rattle.machine.specs.Scan.{takes, stops, breaks, Ran, ended, broke, unended, goes_on, ran, over as textEnd}
use Rattle.machine.specs.Numeric as S
use Rattle.machine.specs.Numeric.{St, Res, begin, scan}
use Rattle.items.specs.Between.NumberOrTime.{Scanned, taken, Means, NumericSays, Tells, Reads}
use Rattle.items.specs.declared.Item as ItemOf

-- an item ends within the text
pub ran_within : (t : List ℕ) (p : ℕ) (st : St) (m : Meaning) (q : ℕ) → ran scan p st t ≡ ended m q → (p ≤ q) × (q ≤ p + length t)
unfolding ran
ran_within [] p st m q e = go (scan p st textEnd) e
  where
    go : (o : Res) → goes_on scan p (λ s. unended) o ≡ ended m q → (p ≤ q) × (q ≤ p + 0)
    go (takes s) f = let z : ◌≡◌ {A = ℕ} 0 1 = cc in absurd (omega arith)
    go (stops v) f = let z : p ≡ q = cc in (omega arith, omega arith)
    go (breaks r) f = let z : ◌≡◌ {A = ℕ} 0 1 = cc in absurd (omega arith)
ran_within (b ∷ t) p st m q e = go (λ s f. ran_within t (suc p) s m q f) (scan p st b) e
  where
    go : ((s : St) → ran scan (suc p) s t ≡ ended m q → (suc p ≤ q) × (q ≤ suc p + length t)) → (o : Res) → goes_on scan p (λ s. ran scan (suc p) s t) o
        ≡ ended m q → (p ≤ q) × (q ≤ p + suc (length t))
    go k (takes s) f = let r = k s f in (omega (arith, r.0), omega (arith, r.1))
    go k (stops v) f = let z : p ≡ q = cc in (omega arith, omega arith)
    go k (breaks r) f = let z : ◌≡◌ {A = ℕ} 0 1 = cc in absurd (omega arith)

-- and has a byte
begin_past : (t : List ℕ) (p : ℕ) (m : Meaning) (q : ℕ) → ran scan p begin t ≡ ended m q → p < q
unfolding ran
begin_past [] p m q e = let z : ◌≡◌ {A = ℕ} 0 1 = cc in absurd (omega arith)
begin_past (b ∷ t) p m q e = go (S.fst_of b) e
  where
    later : (s : St) → ran scan (suc p) s t ≡ ended m q → p < q
    later s f = (ran_within t (suc p) s m q f).0

    go : (c : S.Fst) → goes_on scan p (λ s. ran scan (suc p) s t) (S.on_begin p b c) ≡ ended m q → p < q
    go S.digit_f f = later _ f
    go S.nought_f f = later _ f
    go S.plus_f f = later _ f
    go S.minus_f f = later _ f
    go S.point_f f = later _ f
    go S.n_f f = later _ f
    go S.i_f f = later _ f
    go S.other_f f = let z : ◌≡◌ {A = ℕ} 0 1 = cc in absurd (omega arith)

tells_refused : {x : Ran Meaning} {e : Refusal} → Tells x (Err e) → x ≡ broke e
tells_refused Tells.refused = refl

tells_item : {x : Ran Meaning} {i : ItemOf.Item} {at : ℕ} → Tells x (Ok (taken i at)) → (m : Meaning) × Means i m × (x ≡ ended m at)
tells_item (Tells.item {m = m} k) = (m, k, refl)

pub numeric_says : (s : List ℕ) (p : ℕ) → p < length s → (r : Scanned) → Reads s p begin r → NumericSays s p r
numeric_says s p h (Ok t) k =
    let e = tells_item k.tells in
    record {
      m = e.0;
      means = e.1;
      runs = e.2;
      past = begin_past (drop p s) p e.0 t.end e.2;
      within = omega (arith, (ran_within (drop p s) p begin e.0 t.end e.2).1, length-drop p s);
    }
numeric_says s p h (Err e) k = tells_refused k.tells
