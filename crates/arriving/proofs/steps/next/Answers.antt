use Rattle.std.proofs.Common.{suc, arith}
use Rattle.arriving.proofs.StepsLaws.{few_by, roomy_of, figure_of_lem}
use Rattle.arriving.proofs.FiguresBounds.{figures_bounded}
use Rattle.arriving.proofs.TimesLaws.{times_bounded}
use Rattle.arriving.proofs.StringsBoundsLaws.{quoted_bounded}
use Rattle.arriving.proofs.SmallLaws.{word_bounded, name_bounded, octets_bounded}
use Rattle.arriving.proofs.steps.next.Goals as goal

pub between-requires : goal.between-requires
between-requires c = roomy_of c.args.p c.args.here c.requires.0 (omega arith)

pub done-requires : goal.done-requires
done-requires c = (
  roomy_of c.args.p c.args.here
      c.requires.0 (omega arith),
  few_by (suc c.args.p)
      c.word_next.ensures (word_bounded (suc c.args.p) _
      c.args.p c.args.b),
)

pub figure_next-requires : goal.figure_next-requires
figure_next-requires c = (
  figure_of_lem c.args.p c.args.here _ c.requires.0
      c.in-Counting.is,
  omega arith,
)

pub done-requires-in-Counting : goal.done-requires-in-Counting
done-requires-in-Counting c = (
  roomy_of c.args.p c.args.here
      c.requires.0 (omega arith),
  few_by (suc c.args.p)
      c.figure_next.ensures (figures_bounded _ c.args.p
      c.args.b (figure_of_lem c.args.p
      c.args.here _ c.requires.0
      c.in-Counting.is)),
)

pub done-requires-in-Timing : goal.done-requires-in-Timing
done-requires-in-Timing c = (
  roomy_of c.args.p c.args.here
      c.requires.0 (omega arith),
  few_by (suc c.args.p)
      c.moment_next.ensures (times_bounded _ _ (suc c.args.p)
      c.args.p c.args.b),
)

pub done-requires-in-Quoting : goal.done-requires-in-Quoting
done-requires-in-Quoting c = (
  roomy_of c.args.p c.args.here
      c.requires.0 (omega arith),
  few_by (suc c.args.p)
      c.quoted_next.ensures (quoted_bounded _ _ (suc c.args.p)
      c.args.p c.args.b),
)

pub done-requires-in-Packing : goal.done-requires-in-Packing
done-requires-in-Packing c = (
  roomy_of c.args.p c.args.here
      c.requires.0 (omega arith),
  few_by (suc c.args.p)
      c.octets_next.ensures (octets_bounded (suc c.args.p) _
      c.args.p c.args.b),
)

pub done-requires-in-Naming : goal.done-requires-in-Naming
done-requires-in-Naming c = (
  roomy_of c.args.p c.args.here
      c.requires.0 (omega arith),
  few_by (suc c.args.p) c.name_next.ensures
      (name_bounded (suc c.args.p) c.args.b),
)
