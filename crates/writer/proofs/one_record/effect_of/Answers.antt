-- `one_record::effect_of`: by cases. Assumes nothing.
use mathlib.Core.Path.{sym, ap}
use Rattle.writer.specs.Between.Walk.{effect_of}
use Rattle.writer.proofs.OneRecordLaws.{passed}
use Rattle.writer.proofs.one_record.effect_of.Goals as goal

pub returns-in-Array : goal.returns-in-Array
unfolding effect_of
returns-in-Array c = sym (ap effect_of c.in-Array.is)

pub returns-in-Object : goal.returns-in-Object
unfolding effect_of
returns-in-Object c = sym (ap effect_of c.in-Object.is)

pub returns-in-Key : goal.returns-in-Key
unfolding effect_of
returns-in-Key c = sym (ap effect_of c.in-Key.is)

pub returns-in_default : goal.returns-in_default
returns-in_default c = passed _ c.in_default.not-Key c.in_default.not-Array c.in_default.not-Object
