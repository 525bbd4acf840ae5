-- `time_value::offset_at`: by the sign. Assumes nothing.
use mathlib.Core.Path.{◌≡◌, sym, ap, ◌∙◌}
use mathlib.Core.Bool.{Bool, cond}
use mathlib.Core.List.{[], ◌∷◌}
use Prim.Native.Nat.{ℕ}
use native.Mathlib.Omega.{arith}
use lib.IntN.{pos}
use lib.ListN.{length}
use lib.Signed.{lt_z}
use mir.Syntax.{w16}
use mir.Val.{of_z, to_z}
use Rattle.meaning.specs.Letters.{ch}
use Rattle.writer.proofs.LaidLaws.{put_at_as, put_next}
use Rattle.writer.proofs.PiecesLaws.{offset_none, offset_some, offset_length}
use Rattle.writer.proofs.time_value.offset_at.Goals as goal
use Rattle.writer.proofs.time_value.offset_at.Goals.{then-offset-lt0, else-offset-lt0}

pub byte_at-requires : goal.byte_at-requires
byte_at-requires c = omega (arith, ap length (offset_none _ c.ranges.offset c.if-offset-eq0.true))

pub returns-then-offset-eq0 : goal.returns-then-offset-eq0
returns-then-offset-eq0 c = put_at_as (sym (offset_none _ c.ranges.offset c.if-offset-eq0.true)) c.byte_at.ensures

pub byte_at-first-requires : goal.byte_at-first-requires
byte_at-first-requires c = omega (arith, offset_length _ c.ranges.offset c.if-offset-eq0.false)

pub minutes_at-requires : goal.minutes_at-requires
minutes_at-requires c = omega (arith, ap length (offset_some _ c.ranges.offset c.if-offset-eq0.false c.unsigned_abs.ensures.value))

pub returns : goal.returns
returns c =
    let s : c.if-offset-lt0.sign ≡ cond (lt_z (to_z w16 (of_z w16 c.args.offset)) (pos 0)) (ch "-") (ch "+") =
    elim c.if-offset-lt0.branch [
      | then-offset-lt0 w ↦ w.sign-is ∙ ap (λ (b : Bool). cond b (ch "-") (ch "+")) (sym w.if-offset-lt0.true)
      | else-offset-lt0 w ↦ w.sign-is ∙ ap (λ (b : Bool). cond b (ch "-") (ch "+")) (sym w.if-offset-lt0.false)
    ]
    in
    put_at_as (sym (offset_some _ c.ranges.offset c.if-offset-eq0.false c.unsigned_abs.ensures.value))
    (put_next (omega arith) (put_at_as (ap (λ (x : ℕ). x ∷ []) s) c.byte_at-first.ensures) c.minutes_at.ensures)
