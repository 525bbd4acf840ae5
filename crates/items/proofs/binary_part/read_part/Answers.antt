-- Assumes nothing.
use native.Mathlib.Omega.{arith}
use Prim.Native.Nat.{◌+◌, ◌<◌, ◌≤◌}
use Rattle.machine.specs.Strings.{no_digit}
use Rattle.items.specs.Between.Places.{digit_at}
use Rattle.items.proofs.BinaryPartLaws.{digit_is, part_over, part_none, part_end, part_rest, part_double, part_single, part_pairs, part_bare}
use Rattle.items.proofs.binary_part.read_part.Goals as goal

pub returns-then-at-text : goal.returns-then-at-text
returns-then-at-text c = part_over _ _ c.args.start c.args.store.now c.if-at-text.true

pub returns-then-text-at-ne36 : goal.returns-then-text-at-ne36
returns-then-text-at-ne36 c = part_none _ _ c.args.start c.args.store.now c.if-at-text.false c.if-text-at-ne36.true

pub returns-then-i-text : goal.returns-then-i-text
returns-then-i-text c = part_end _ _ _ _ c.if-at-text.false c.if-text-at-ne36.false c.if-i-text.true

pub returns-in-34 : goal.returns-in-34
returns-in-34 c = part_rest _ _ c.args.start c.args.store.now c.if-at-text.false c.if-text-at-ne36.false _ _ _ (omega arith)
    (part_double _ _ c.args.start c.args.store.now c.if-at-text.false c.if-text-at-ne36.false c.if-i-text.false c.in-34.is) _ c.quoted.result c.quoted.ensures

pub returns-in-39 : goal.returns-in-39
returns-in-39 c = part_rest _ _ c.args.start c.args.store.now c.if-at-text.false c.if-text-at-ne36.false _ _ _ (omega arith)
    (part_single _ _ c.args.start c.args.store.now c.if-at-text.false c.if-text-at-ne36.false c.if-i-text.false c.in-39.is) _
    c.quoted-in-39.result c.quoted-in-39.ensures

pub returns-in-Some : goal.returns-in-Some
returns-in-Some c = let z = c.in_default in let h = c.in-Some.ensures in let e = digit_is c.args.text.now (c.args.at + 1) c.if-i-text.false in
    let d : digit_at c.args.text.now (c.args.at + 1) < no_digit = omega arith in
    part_rest _ _ c.args.start c.args.store.now c.if-at-text.false c.if-text-at-ne36.false _ _ _ (omega arith)
    (part_pairs _ _ c.args.start c.args.store.now c.if-at-text.false c.if-text-at-ne36.false c.if-i-text.false (λ x. omega arith) (λ x. omega arith) d) _
    c.pairs.result c.pairs.ensures

pub returns-in-None : goal.returns-in-None
returns-in-None c = let h = c.in-None.ensures in let e = digit_is c.args.text.now (c.args.at + 1) c.if-i-text.false in
    let d : no_digit ≤ digit_at c.args.text.now (c.args.at + 1) = omega arith in
    part_bare _ _ _ _ c.if-at-text.false c.if-text-at-ne36.false c.if-i-text.false (λ x. omega arith) (λ x. omega arith) d
