-- `fields::inside`: the sum is never made. Assumes nothing.
use Rattle.tape.proofs.FieldsRangeLaws.{past_store, inside_test}
use Rattle.tape.proofs.fields.inside.Goals as goal

pub returns-then-start-store : goal.returns-then-start-store
returns-then-start-store c = inside_test _ _ c.args.store.now c.if-start-store.true

pub returns-else-start-store : goal.returns-else-start-store
returns-else-start-store c = past_store _ _ c.args.store.now c.if-start-store.false
