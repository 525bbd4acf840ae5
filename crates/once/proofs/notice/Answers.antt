-- `notice`: where none stands yet. Assumes nothing.
use Rattle.once.proofs.GroupsLaws.{notice_first, notice_again}
use Rattle.once.proofs.notice.Goals as goal

pub returns-then-seen-eq0 : goal.returns-then-seen-eq0
returns-then-seen-eq0 c = notice_first c.args.seen.now c.args.place c.if-seen-eq0.true

pub returns-else-seen-eq0 : goal.returns-else-seen-eq0
returns-else-seen-eq0 c = notice_again c.args.seen.now c.args.place c.if-seen-eq0.false
