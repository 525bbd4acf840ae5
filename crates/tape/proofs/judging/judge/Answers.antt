-- `judging::judge`: formed, and no repeated key. Assumes nothing.
use Rattle.rules.proofs.TestsLaws.{held}
use Rattle.tape.proofs.JudgingOnceLaws.{formed_standing, judged_unformed, judged_once, judged_twice}
use Rattle.tape.proofs.judging.judge.Goals as goal
use Rattle.tape.proofs.judging.judge.Goals.{else-formed-via-then-formed+else-is_none, else-formed-via-else-formed}

pub first_repeat-requires : goal.first_repeat-requires
first_repeat-requires c = formed_standing (held c.formed.ensures c.if-formed.true)

pub returns-then-is_none : goal.returns-then-is_none
returns-then-is_none c = judged_once (held c.formed.ensures c.if-formed.true) c.first_repeat.ensures c.if-is_none.ensures

pub returns : goal.returns
returns c = elim c.else-formed.branch [
  | else-formed-via-then-formed+else-is_none w ↦ judged_twice (held c.formed.ensures w.if-formed.true) w.first_repeat.ensures w.if-is_none.ensures
  | else-formed-via-else-formed w ↦ judged_unformed c.formed.ensures w.if-formed.false
]
