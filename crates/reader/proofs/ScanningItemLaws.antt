-- A scanner over a text, and what the machine makes of its end. Assumes nothing.
use mathlib.Core.Path.{◌≡◌, ap, ◌∙◌}
use mathlib.Core.List.{List}
use Prim.Native.Nat.{ℕ, ◌+◌, ◌-◌}
use native.Mathlib.Omega.{arith}
use lib.ListN.{drop}
use lib.Seq.{drop-drop}
use Rattle.meaning.specs.declared.Refusal.{Refusal}
use Rattle.machine.specs.Scan.{Out, ended, broke, ran}
use Rattle.machine.specs.Machine.{Item, Got, base, item, got, Frame, at, lift}
use Rattle.machine.specs.Machine as Machine
use Rattle.machine.specs.Heard.{Told}
use Rattle.machine.proofs.Lift.{item_ends, item_breaks}
use Rattle.reader.specs.Between.Scanning.{Goes, Refuses}

module _ {S M : Type 0} (scan : ℕ → S → ℕ → Out S M) (f : S → Item) (g : M → Got)
    (lifts : (p : ℕ) (s : S) (b : ℕ) → Machine.scan p (f s) b ≡ lift f g (scan p s b)) (d : ℕ) (k : List Frame) where
  -- an item from p to q
  pub lift_done : (text : List ℕ) (p : ℕ) (s : S) (m : M) (q : ℕ) → ran scan p s (drop p text) ≡ ended m q
      → Goes text (at (item (f s)) d k) p (at (base (got (g m))) d k) q
  lift_done text p s m q h =
      let v = item_ends scan f g lifts d k (drop p text) p s m q h in
      let n : p + (q - p) ≡ q = omega (arith, v.behind) in
      v.tells ∙ rw (drop-drop, n)

  pub lift_refused : (text : List ℕ) (p : ℕ) (s : S) (why : Refusal) → ran scan p s (drop p text) ≡ broke why → Refuses text (at (item (f s)) d k) p why
  lift_refused text p s why h = ap (λ (x : Told). x.verdict) (item_breaks scan f g lifts d k (drop p text) p s why h)
