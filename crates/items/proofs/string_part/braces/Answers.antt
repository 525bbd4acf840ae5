-- Assumes nothing.
use mathlib.Core.Path.{◌≡◌, refl}
use native.Mathlib.Omega.{arith}
use lib.ListN.{get_or}
use Rattle.meaning.specs.Letters.{ch}
use Rattle.items.specs.Between.StringPart.{EscapeSays}
use Rattle.items.proofs.PlacesLaws.{passed_at}
use Rattle.items.proofs.StringPartEscapeLaws.{brace_none, brace_start, brace_end, brace_break, brace_more, brace_low, brace_high, brace_half, brace_past}
use Rattle.items.proofs.string_part.braces.Goals as goal
use Rattle.items.proofs.string_part.braces.Goals.{then-loop-p-test+else-s-p-ne125, else-loop-p-test}
use Rattle.items.proofs.string_part.braces.Goals.{in_default, in_default-2, in-0-to-55295, in-0-to-55295-2}

pub returns-in_err-v : goal.returns-in_err-v
returns-in_err-v c = let e = c.in_err-v.ensures in
    passed_at (EscapeSays c.args.s.now c.args.at) _ c.from_residual.ensures.1 e.1 (brace_none _ _ c.requires _ refl e.0)

pub loop-p-init : goal.loop-p-init
loop-p-init c = let a = c.in_ok-v.ensures in brace_start _ _ c.requires _ a.0 a.1

pub returns-in_err-hex_at : goal.returns-in_err-hex_at
returns-in_err-hex_at c = let e = c.in_err-hex_at.ensures in
    passed_at (EscapeSays c.args.s.now c.args.at) _ c.from_residual-in_err-hex_at.ensures.1 e.1
    (brace_break _ _ _ _ c.loop-p.invariant c.loop-p-test.true c.if-s-p-ne125.true _ refl e.0)

pub loop-p-preserved : goal.loop-p-preserved
loop-p-preserved c = let d = c.in_ok-hex_at.ensures in
    brace_more _ _ _ _ c.loop-p.invariant c.loop-p-test.true c.if-s-p-ne125.true _ d.0 d.1 _ c.grown-v.ensures.grown

pub returns-then-p-s : goal.returns-then-p-s
returns-then-p-s c = brace_end _ _ _ _ c.loop-p.invariant c.if-p-s.true

pub returns : goal.returns
returns c = let e : get_or c.args.s.now c.loop-p.p 0 ≡ ch "}" = elim c.loop-p-test.branch [
  | then-loop-p-test+else-s-p-ne125 w ↦ w.if-s-p-ne125.false
  | else-loop-p-test w ↦ absurd (omega arith)
] in
    let t = c.loop-p.invariant in elim c.if-v-lt55296.branch [
      | in_default w ↦ rw w.value-is (brace_half _ _ _ _ t c.if-p-s.false e (omega arith) (omega arith))
      | in_default-2 w ↦ rw w.value-is (brace_past _ _ _ _ t c.if-p-s.false e (omega arith))
      | in-0-to-55295 w ↦ rw w.value-is (brace_low _ _ _ _ t c.if-p-s.false e (omega arith))
      | in-0-to-55295-2 w ↦ rw w.value-is (brace_high _ _ _ _ t c.if-p-s.false e (omega arith) (omega arith) (omega arith))
    ]
