use mathlib.Core.Path.{◌≡◌, ap, ◌∙◌}
use Prim.Native.Nat.{ℕ}
use native.Mathlib.Omega.{arith}
use Rattle.meaning.specs.Canonical.{trimmed as trimmedText}
use Rattle.writer.proofs.PiecesLaws.{trimmed_kept, trimmed_cut, trimmed_zero}
use Rattle.writer.proofs.time_value.trimmed.Goals as goal

pub returns-then-digits-ne0 : goal.returns-then-digits-ne0
returns-then-digits-ne0 c = record {
  text = c.loop-count.invariant ∙ trimmed_kept _ _ c.loop-count-test.true c.if-digits-ne0.true;
  few = c.loop-count.auto.count;
}

pub loop-count-preserved : goal.loop-count-preserved
loop-count-preserved c = c.loop-count.invariant ∙ trimmed_cut _ _ c.loop-count-test.true c.if-digits-ne0.false

pub returns : goal.returns
returns c =
    let z : c.loop-count.count ≡ 0 = omega arith in
    record {
      text = c.loop-count.invariant ∙ ap (λ (k : ℕ). trimmedText k c.loop-count.digits) z ∙ trimmed_zero _ _;
      few = omega arith;
    }
