-- Assumes nothing.
use native.Mathlib.Omega.{arith}
use Rattle.items.specs.Between.BinaryPart.{EscapeSays}
use Rattle.items.proofs.PlacesLaws.{passed_at}
use Rattle.items.proofs.BinaryPartLaws.{escape_over, escape_wrong, escape_short, escape_high, escape_low, escape_hex}
use Rattle.items.proofs.binary_part.escaped.Goals as goal

pub returns-then-at-text : goal.returns-then-at-text
returns-then-at-text c = escape_over _ _ c.if-at-text.true

pub returns-in_err-h : goal.returns-in_err-h
returns-in_err-h c = let e = c.in_err-h.ensures in
    passed_at (EscapeSays c.args.text.now c.args.at) c.from_residual.result c.from_residual.ensures.1 e.1
    (escape_high _ _ c.if-at-text.false c.if-text-at-eq120.true e.0)

pub returns-in_err-l : goal.returns-in_err-l
returns-in_err-l c = let e = c.in_err-l.ensures in let h = c.in_ok-h.ensures in
    passed_at (EscapeSays c.args.text.now c.args.at) c.from_residual-in_err-l.result c.from_residual-in_err-l.ensures.1 e.1
    (escape_low _ _ c.if-at-text.false c.if-text-at-eq120.true (omega arith) e.0)

pub returns-then-text-at-eq120 : goal.returns-then-text-at-eq120
returns-then-text-at-eq120 c = let h = c.in_ok-h.ensures in let l = c.in_ok-l.ensures in
    rw (h.0, l.0) (escape_hex _ _ c.if-at-text.false c.if-text-at-eq120.true (omega arith) (omega arith))

pub returns-in-Some : goal.returns-in-Some
returns-in-Some c = let v = c.in-Some.ensures in
    rw v.0 (escape_short _ _ c.if-at-text.false c.if-text-at-eq120.false (omega arith))

pub returns-in-None : goal.returns-in-None
returns-in-None c = escape_wrong _ _ c.if-at-text.false c.if-text-at-eq120.false c.in-None.ensures
