-- Assumes nothing.
use mathlib.Core.Path.{refl}
use Rattle.items.specs.Between.StringPart.{EscapeSays}
use Rattle.items.proofs.PlacesLaws.{passed_at}
use Rattle.items.proofs.StringPartEscapeLaws.{four0, four1, four2, four3, four4}
use Rattle.items.proofs.string_part.four.Goals as goal

pub returns-in_err-a : goal.returns-in_err-a
returns-in_err-a c = let e = c.in_err-a.ensures in
    passed_at (EscapeSays c.args.s.now c.args.at) _ c.from_residual.ensures.1 e.1 (four0 _ _ c.requires _ refl e.0)

pub returns-in_err-b : goal.returns-in_err-b
returns-in_err-b c = let e = c.in_err-b.ensures in let a = c.in_ok-a.ensures in
    passed_at (EscapeSays c.args.s.now c.args.at) _ c.from_residual-in_err-b.ensures.1 e.1 (four1 _ _ c.requires _ a.0 a.1 _ refl e.0)

pub returns-in_err-c : goal.returns-in_err-c
returns-in_err-c c = let e = c.in_err-c.ensures in let a = c.in_ok-a.ensures in let b = c.in_ok-b.ensures in
    passed_at (EscapeSays c.args.s.now c.args.at) _ c.from_residual-in_err-c.ensures.1 e.1 (four2 _ _ c.requires _ a.0 a.1 _ b.0 b.1 _ refl e.0)

pub returns-in_err-d : goal.returns-in_err-d
returns-in_err-d c = let e = c.in_err-d.ensures in let a = c.in_ok-a.ensures in let b = c.in_ok-b.ensures in let x = c.in_ok-c.ensures in
    passed_at (EscapeSays c.args.s.now c.args.at) _ c.from_residual-in_err-d.ensures.1 e.1
    (four3 _ _ c.requires _ a.0 a.1 _ b.0 b.1 _ x.0 x.1 _ refl e.0)

pub returns : goal.returns
returns c = let a = c.in_ok-a.ensures in let b = c.in_ok-b.ensures in let x = c.in_ok-c.ensures in let d = c.in_ok-d.ensures in
    four4 _ _ c.requires _ a.0 a.1 _ b.0 b.1 _ x.0 x.1 _ d.0 d.1
