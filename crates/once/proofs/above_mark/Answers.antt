-- `above_mark`: by its test. Assumes nothing.
use Rattle.once.specs.Groups.{AboveMark}
use Rattle.once.proofs.above_mark.Goals as goal

pub returns-then-link-seen : goal.returns-then-link-seen
returns-then-link-seen c = AboveMark.inside c.if-link-seen.true

pub returns : goal.returns
returns c = AboveMark.outside c.if-link-seen.false
