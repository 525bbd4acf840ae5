-- Assumes nothing.
use mathlib.Core.Path.{refl}
use Rattle.items.proofs.StringPartEscapeLaws.{nothing_after, short_says, no_short_lem, nothing_unicode}
use Rattle.items.proofs.string_part.escape_at.Goals as goal

pub returns-then-s-p : goal.returns-then-s-p
returns-then-s-p c = nothing_after _ _ c.requires.0 c.requires.1 c.if-s-p.true

pub returns-in-Some : goal.returns-in-Some
returns-in-Some c = let v = c.in-Some.ensures in
    short_says _ _ c.requires.0 c.requires.1 c.if-s-p.false c.if-s-p-ne117.true _ v.0 v.1

pub returns-in-None : goal.returns-in-None
returns-in-None c = no_short_lem _ _ c.requires.0 c.requires.1 c.if-s-p.false c.if-s-p-ne117.true _ refl c.in-None.ensures

pub returns-then-s-u : goal.returns-then-s-u
returns-then-s-u c = nothing_unicode _ _ c.requires.0 c.requires.1 c.if-s-p.false c.if-s-p-ne117.false c.if-s-u.true
