-- The calendar's answer is that of the test that computes. Assumes nothing.
use Rattle.arriving.proofs.TimesLaws.{date_told}
use Rattle.arriving.proofs.times.is_date.Goals as goal

pub returns : goal.returns
returns c = rw (c.is_ok.ensures.value, ← c.from.ensures, ← c.from-2.ensures, ← c.from-3.ensures) (date_told _ c.date.ensures)
