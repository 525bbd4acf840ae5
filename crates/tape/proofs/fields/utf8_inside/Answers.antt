-- `fields::utf8_inside`: inside first, then UTF-8. Assumes nothing.
use Rattle.rules.proofs.TestsLaws.{held, fails_too}
use Rattle.tape.proofs.FieldsRangeLaws.{part_of, is_utf8}
use Rattle.tape.proofs.fields.utf8_inside.Goals as goal

pub returns-then-inside : goal.returns-then-inside
returns-then-inside c = rw c.is_ok.ensures.value (is_utf8 _ _ _ _ _ (part_of c.args.length
    c.args.start c.args.store.now)
    c.utf8-2.ensures (held c.inside.ensures c.if-inside.true))

pub returns-else-inside : goal.returns-else-inside
returns-else-inside c = fails_too (λ p. p.0) c.inside.ensures c.if-inside.false
