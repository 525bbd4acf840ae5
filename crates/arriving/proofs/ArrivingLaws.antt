-- A part byte by byte, the bounds by the code's tests, a part's and the end's answers. Assumes nothing.
use Prim.Native.Nat.{ℕ, ◌+◌, ◌-◌, ◌≤◌, ◌<◌}
use mathlib.Core.Path.{◌≡◌, ap, ◌∙◌}
use mathlib.Core.Bool.{true, false}
use mathlib.Core.List.{List}
use native.Mathlib.Omega.{arith}
use borrow.Author.Tests.{le-leb, lt-leb, leb-true}
use lib.Dec.{leb}
use lib.ListN.{length}
use Rattle.std.specs.Prelude.{Err}
use Rattle.meaning.specs.declared.Refusal.TheVariants.{NotUtf8}
use Rattle.meaning.specs.Limits.{text_limit}
use Rattle.arriving.specs.declared.Core.{Core}
use Rattle.arriving.specs.declared.Check.{Check}
use Rattle.arriving.specs.declared.octets.Utf.{Utf}
use Rattle.arriving.specs.Between.Octets.{fed_utf}
use Rattle.arriving.specs.Between.Steps.{Stand, walked}
use Rattle.arriving.specs.Between.Arriving.{sane_here, sane, core_of, check_of, spent, grown, fed, ended_core}
use Rattle.arriving.proofs.StepsLaws.{both}

-- ---- the bounds

module _ (c : Core) where
  -- what a sane state has
  pub sane_told : sane c ≡ true → (c.length ≤ text_limit) × (sane_here c.length c.here ≡ true)
  unfolding sane
  sane_told e =
      let a = both (leb c.length text_limit) (sane_here c.length c.here) e in
      (leb-true _ _ a.0, a.1)

-- ---- a part

module _ (x : Check) (t : List ℕ) where
  pub fed_spent : sane x.core ≡ false → spent ≡ fed x t
  unfolding fed
  fed_spent e = rw e

  pub fed_over : sane x.core ≡ true → text_limit - x.core.length < length t → spent ≡ fed x t
  unfolding fed
  fed_over e l = rw (e, lt-leb _ _ l)

  fed_on : sane x.core ≡ true → length t ≤ text_limit - x.core.length
      → grown x.core t (walked (x.core.here, x.kinds) x.core.length t) ≡ fed x t
  unfolding fed
  fed_on e l = rw (e, le-leb _ _ l)

  pub fed_all : {u : Utf} {y : Stand} → sane x.core ≡ true → length t ≤ text_limit - x.core.length
      → u ≡ fed_utf x.core.utf x.core.length t → y ≡ walked (x.core.here, x.kinds) x.core.length t
      → check_of (core_of (x.core.length + length t) u y.0) y.1 ≡ fed x t
  fed_all {u} {y} e l f g =
      ap (λ (v : Utf). check_of (core_of (x.core.length + length t) v y.0) y.1) f ∙ ap (grown x.core t) g ∙ fed_on e l

  -- the part fits
  pub fed_fits : sane x.core ≡ true → length t ≤ text_limit - x.core.length → x.core.length + length t ≤ text_limit
  fed_fits e l = omega (arith, (sane_told x.core e).0)

-- ---- the end

-- a fault of UTF-8 is the answer wherever it lies
pub ended_broken : (c : Core) → sane c ≡ true → c.utf.broken ≡ true → Err (NotUtf8 c.utf.first) ≡ ended_core c
unfolding ended_core
ended_broken c e f = rw (e, f)
