use Rattle.std.proofs.Common.{suc}
use Rattle.arriving.proofs.FiguresBounds.{begin_bounded}
use Rattle.arriving.proofs.StepsLaws.{few_takes, few_by}
use Rattle.arriving.proofs.steps.begun_figure.Goals as goal

pub begun-requires : goal.begun-requires
begun-requires c = (
  c.requires,
  few_takes _ _ _ (few_by (suc c.args.p)
      c.begin.ensures (begin_bounded c.args.p c.args.b))
      c.in-Takes.is,
)
