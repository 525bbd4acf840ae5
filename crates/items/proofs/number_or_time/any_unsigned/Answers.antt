-- What the digits begin, read on. Assumes nothing.
use Rattle.items.proofs.NumberOrTimeLaws.{handed_on}
use Rattle.items.proofs.NumberOrTimeLeadLaws.{lead_is}
use Rattle.items.proofs.number_or_time.any_unsigned.Goals as goal

pub decimal-requires : goal.decimal-requires
decimal-requires c = (lead_is _ _ _ _ c.in_ok-lead.ensures c.in-Number.is).0

pub hexadecimal-requires : goal.hexadecimal-requires
hexadecimal-requires c = record { within = (lead_is _ _ _ _ c.in_ok-lead.ensures c.in-Hex.is).0; short = c.requires.short }

pub after_hour-requires : goal.after_hour-requires
after_hour-requires c = record { within = (lead_is _ _ _ _ c.in_ok-lead.ensures c.in-Hour.is).0; short = c.requires.short }

pub after_year-requires : goal.after_year-requires
after_year-requires c = record { within = (lead_is _ _ _ _ c.in_ok-lead.ensures c.in-Year.is).0; short = c.requires.short }

pub returns-in-Number : goal.returns-in-Number
returns-in-Number c = let g = (lead_is _ _ _ _ c.in_ok-lead.ensures c.in-Number.is).1 in g.2 _ (c.decimal.ensures.reads g.0 g.1)

pub returns-in-Hex : goal.returns-in-Hex
returns-in-Hex c = (lead_is _ _ _ _ c.in_ok-lead.ensures c.in-Hex.is).1 _ c.hexadecimal.ensures

pub returns-in-Hour : goal.returns-in-Hour
returns-in-Hour c = (lead_is _ _ _ _ c.in_ok-lead.ensures c.in-Hour.is).2 _ c.after_hour.ensures

pub returns-in-Year : goal.returns-in-Year
returns-in-Year c = (lead_is _ _ _ _ c.in_ok-lead.ensures c.in-Year.is).2 _ c.after_year.ensures

pub returns-in_err-lead : goal.returns-in_err-lead
returns-in_err-lead c = handed_on _ c.from_residual.ensures.1 c.in_err-lead.ensures
