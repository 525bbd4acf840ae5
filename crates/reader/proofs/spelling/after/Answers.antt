use Rattle.reader.proofs.SpellingLaws.{after_stray, after_last, after_next}
use Rattle.reader.proofs.spelling.after.Goals as goal

pub returns-in-Err : goal.returns-in-Err
returns-in-Err c = after_stray c.args.text.now c.args.end _ (rw c.in-Err.is at c.after_part.ensures)

pub returns-in-Ok-Last : goal.returns-in-Ok-Last
returns-in-Ok-Last c = after_last c.args.text.now c.args.end _ (rw c.in-Ok-Last.field-0-is at c.in-Ok-Last.ensures)

pub returns-in-Ok-Next : goal.returns-in-Ok-Next
returns-in-Ok-Next c = after_next c.args.text.now c.args.end _ c.requires (rw c.in-Ok-Next.field-0-is at c.in-Ok-Next.ensures)
