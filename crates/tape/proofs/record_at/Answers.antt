-- `record_at`: the only record that may stand there. Assumes nothing.
use mathlib.Core.Path.{◌∙◌}
use Rattle.tape.proofs.LookingLaws.{record_only}
use Rattle.tape.proofs.record_at.Goals as goal

pub returns : goal.returns
returns c = record { is = λ store s a. c.only_at.ensures ∙ record_only c.args.tape.now store c.args.index s a }
