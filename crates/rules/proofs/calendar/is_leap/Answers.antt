-- Each way through the test is one of the rules of a leap year. Assumes nothing.
use Rattle.rules.proofs.Months.{leap_fourth, leap_hundred, leap_none}
use Rattle.rules.proofs.calendar.is_leap.Goals as goal

pub returns-then-year-ne0 : goal.returns-then-year-ne0
returns-then-year-ne0 c = leap_fourth _ c.if-year-eq0.true c.if-year-ne0.true

pub returns-else-year-ne0 : goal.returns-else-year-ne0
returns-else-year-ne0 c = leap_hundred _ c.if-year-eq0.true c.if-year-ne0.false

pub returns-else-year-eq0 : goal.returns-else-year-eq0
returns-else-year-eq0 c = leap_none _ c.if-year-eq0.false
