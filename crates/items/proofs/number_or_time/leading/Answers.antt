-- The byte after the digits decides. Assumes nothing.
use native.Mathlib.Omega.{arith}
use Rattle.items.proofs.NumberOrTimeLeadLaws.{lead_plain, lead_colon, lead_dash, lead_x, at_end, at_other, colon_small}
use Rattle.items.proofs.number_or_time.leading.Goals as goal

pub returns-then-w-s : goal.returns-then-w-s
returns-then-w-s c = lead_plain c.args.s.now c.args.q c.first_digits-w.result c.first_digits-w.ensures (at_end _ _ _ _ (omega arith)) c.requires.short _
    c.plain.ensures

pub overflow_cast-result : goal.overflow_cast-result
overflow_cast-result c = omega (
  arith,
  colon_small c.args.s.now c.args.q c.first_digits-w.result c.first_digits-w.ensures (omega arith) _ c.mark_of.ensures
      c.in-Colon.is,
)

pub returns-in-Colon : goal.returns-in-Colon
returns-in-Colon c = lead_colon c.args.s.now c.args.q c.first_digits-w.result c.first_digits-w.ensures (omega arith) _ c.mark_of.ensures c.in-Colon.is

pub returns-in-Dash : goal.returns-in-Dash
returns-in-Dash c = lead_dash c.args.s.now c.args.q c.first_digits-w.result c.first_digits-w.ensures (omega arith) _ c.mark_of.ensures c.in-Dash.is

pub returns-in-X : goal.returns-in-X
returns-in-X c = lead_x c.args.s.now c.args.q c.first_digits-w.result c.first_digits-w.ensures (omega arith) _ c.mark_of.ensures c.in-X.is

pub returns-in-Other : goal.returns-in-Other
returns-in-Other c = lead_plain c.args.s.now c.args.q c.first_digits-w.result c.first_digits-w.ensures
    (at_other _ _ _ _ (omega arith) _ c.mark_of.ensures c.in-Other.is) c.requires.short _ c.plain-in-Other.ensures
