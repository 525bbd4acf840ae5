-- `judging::number`: the sign, then the fields. Assumes nothing.
use mathlib.Core.Path.{refl}
use native.Mathlib.Omega.{arith}
use mir.Syntax.{w32}
use Rattle.tape.specs.Between.Turns.{passes, fails}
use Rattle.rules.proofs.TestsLaws.{held, failed}
use Rattle.tape.proofs.LittleEndianSignLaws.{read_back}
use Rattle.tape.proofs.judging.number.Goals as goal
use Rattle.tape.proofs.judging.number.Goals.{else-w-le1-via-then-w-le1+else-good_finite, else-w-le1-via-else-w-le1}

pub returns-then-good_finite : goal.returns-then-good_finite
returns-then-good_finite c = passes (
  omega arith,
  rw (read_back w32 _ _ (record { fits = c.requires.mid_small }) c.cast_signed.ensures) at
      (held c.good_finite.ensures c.if-good_finite.true),
) refl

pub returns : goal.returns
returns c = elim c.else-w-le1.branch [
  | else-w-le1-via-then-w-le1+else-good_finite w ↦ fails (λ p. absurd (failed w.good_finite.ensures w.if-good_finite.false
      (rw (read_back w32 _ _ (record { fits = c.requires.mid_small }) w.cast_signed.ensures) p.1)))
  | else-w-le1-via-else-w-le1 w ↦ fails (λ p. absurd (omega (arith, w.if-w-le1.false, p.0)))
]
