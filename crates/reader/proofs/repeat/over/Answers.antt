use Rattle.reader.proofs.RepeatLaws.{over_is}
use Rattle.reader.proofs.repeat.over.Goals as goal

pub returns : goal.returns
returns c = over_is c.args.text.now c.args.from _ _ c.is_none.ensures c.next.ensures
