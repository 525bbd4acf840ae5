-- `key::slot_is`: its tag, then its bytes. Assumes nothing.
use borrow.Author.Tests.{ne_eqb}
use Rattle.tape.specs.Between.Key.{other_tag, told}
use Rattle.tape.proofs.key.slot_is.Goals as goal

pub returns-then-tag_of-tag : goal.returns-then-tag_of-tag
returns-then-tag_of-tag c = told _ c.place_of.ensures c.key_is.ensures

pub returns-else-tag_of-tag : goal.returns-else-tag_of-tag
returns-else-tag_of-tag c = rw (ne_eqb _ _ c.if-tag_of-tag.false) (other_tag _ c.tag_of.ensures c.if-tag_of-tag.false)
