use borrow.Author.Rules.{rules}
use native.Mathlib.Omega.{arith}
use mathlib.Core.Path.{refl}
use mathlib.Core.List.{[]}
use Rattle.std.proofs.lemmas.Result.{err_from_is_err_and}
use Rattle.reader.specs.Between.Joined.{Uses, part_of}
use Rattle.reader.proofs.JoinedLaws.{kinds, no_part, parts_refused, parts_stray, parts_short, parts_last, parts_next, parts_further}
use Rattle.reader.proofs.joined.parts.Goals as goal

pub loop-part-init : goal.loop-part-init
loop-part-init g c = let i = g.P.Part.kind in (no_part (Uses i) (part_of i) c.args.text.now c.args.from c.args.start c.args.store.now (omega arith), refl)

pub returns-in_err-part : goal.returns-in_err-part
returns-in_err-part g c = let p = err_from_is_err_and c.from_residual.result c.from_residual.ensures.1 in
    rw (p.1, p.2) (parts_refused (kinds g.P.Part.kind) c.loop-part.invariant.0 [] _ c.in_err-part.ensures)

pub overflow_add-out : goal.overflow_add-out
overflow_add-out g c = omega (arith, parts_short (kinds g.P.Part.kind) c.loop-part.invariant.0 c.in_ok-part.ensures c.requires.1)

pub returns-in_err-next : goal.returns-in_err-next
returns-in_err-next g c = let p = err_from_is_err_and c.from_residual-in_err-next.result c.from_residual-in_err-next.ensures.1 in
    rw (p.1, p.2) (parts_stray (kinds g.P.Part.kind) c.loop-part.invariant.0 c.in_ok-part.ensures _ c.in_err-next.ensures)

pub returns-in-Last : goal.returns-in-Last
returns-in-Last g c = parts_last (kinds g.P.Part.kind) c.loop-part.invariant.0 c.in_ok-part.ensures _ (omega (arith, c.loop-part.invariant.0.placed))
    (simp c.in-Last.is at c.in_ok-next.ensures)

pub loop-part-smaller : goal.loop-part-smaller
loop-part-smaller g c = parts_further (kinds g.P.Part.kind) c.loop-part.invariant.0 c.in_ok-part.ensures (simp c.in-Next.is at c.in_ok-next.ensures)

pub loop-part-preserved : goal.loop-part-preserved
loop-part-preserved g c =
    (parts_next (kinds g.P.Part.kind) c.loop-part.invariant.0 c.in_ok-part.ensures (simp c.in-Next.is at c.in_ok-next.ensures), search rules)
