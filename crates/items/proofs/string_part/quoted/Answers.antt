-- Assumes nothing.
use native.Mathlib.Omega.{arith}
use Rattle.items.proofs.StringPartQuotedLaws.{one_end, one_body, two_end, two_other, two_three}
use Rattle.items.proofs.string_part.quoted.Goals as goal
use Rattle.items.proofs.string_part.quoted.Goals.{then-s-lt3-via-then-s-lt3, then-s-lt3-via-else-s-lt3+then-s-q-2}

pub returns-then-s-lt2 : goal.returns-then-s-lt2
returns-then-s-lt2 c = one_end _ c.args.at c.args.store.now c.args.q (omega arith) c.requires.1 c.if-s-lt2.true

pub returns-then-s-q : goal.returns-then-s-q
returns-then-s-q c = one_body _ c.args.at c.args.store.now c.args.q (omega arith) c.requires.1 c.if-s-lt2.false c.if-s-q.true _
    c.inner.result c.inner.ensures

pub returns-then-s-lt3 : goal.returns-then-s-lt3
returns-then-s-lt3 c = elim c.then-s-lt3.branch [
  | then-s-lt3-via-then-s-lt3 w ↦ two_end _ _ _ _ (omega arith) c.requires.1 c.if-s-lt2.false c.if-s-q.false w.if-s-lt3.true
  | then-s-lt3-via-else-s-lt3+then-s-q-2 w ↦
      two_other _ _ _ _ (omega arith) c.requires.1 c.if-s-lt2.false c.if-s-q.false w.if-s-lt3.false w.if-s-q-2.true
]

pub returns : goal.returns
returns c = two_three _ c.args.at c.args.store.now c.args.q (omega arith) c.requires.1 c.if-s-lt2.false c.if-s-q.false c.if-s-lt3.false c.if-s-q-2.false _
    c.multiline.result c.multiline.ensures
