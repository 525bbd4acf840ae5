use native.Mathlib.Omega.{arith}
use Rattle.reader.proofs.SpellingLaws.{key_opens, key_names}
use Rattle.reader.proofs.spelling.begun.Goals as goal

pub returns-in-34 : goal.returns-in-34
returns-in-34 c = (omega (arith, c.requires), key_opens c.args.text.now c.args.at c.requires c.in-34.is)

pub returns-in_default : goal.returns-in_default
returns-in_default c = (omega (arith, c.requires), key_names c.args.text.now c.args.at c.requires (grind arith) (grind arith))
