use native.Mathlib.Omega.{arith}
use Rattle.reader.proofs.SpellingLaws.{octets_few, escaped_bad, escaped_whole}
use Rattle.reader.proofs.spelling.escaped.Goals as goal

pub returns-in-None : goal.returns-in-None
returns-in-None c = escaped_bad c.args.text.now c.args.at c.args.quote (omega arith) _ (rw c.in-None.is at c.in-Ok.ensures)

pub due-requires : goal.due-requires
due-requires c = let w = rw c.in-Some.is at c.in-Ok.ensures in (
  w.small,
  omega (arith, c.octets.ensures, octets_few c.in-Some.character),
  omega (arith, c.octets.ensures, octets_few c.in-Some.character),
)

pub returns-in-Some : goal.returns-in-Some
returns-in-Some c = let w = rw c.in-Some.is at c.in-Ok.ensures in
    escaped_whole c.args.text.now
    c.args.at c.args.quote
    (omega arith) _ _ w c.due.result (rw c.octets.ensures at
    (c.due.ensures c.args.text.now w.within))
