-- Assumes nothing.
use native.Mathlib.Omega.{arith}
use Rattle.items.proofs.StringPartQuotedLaws.{round_plain, round_end, round_lone, round_char, round_wrong, round_bad, round_close}
use Rattle.items.proofs.string_part.inner.Goals as goal

pub returns-then-s-e : goal.returns-then-s-e
returns-then-s-e c = let t = round_plain c.loop-bad.invariant c.plain_end-e.ensures c.copy.ensures in
    round_end t (omega arith) c.if-s-e.true

pub returns-then-b-q : goal.returns-then-b-q
returns-then-b-q c = let t = round_plain c.loop-bad.invariant c.plain_end-e.ensures c.copy.ensures in
    round_wrong t c.if-s-e.false c.if-b-ne92.true c.plain_end-e.ensures.stopped c.if-b-q.true

pub returns-in-Some : goal.returns-in-Some
returns-in-Some c = let t = round_plain c.loop-bad.invariant c.plain_end-e.ensures c.copy.ensures in
    round_bad t c.if-s-e.false c.if-b-ne92.true c.if-b-q.false c.in-Some.is

pub returns-in-None : goal.returns-in-None
returns-in-None c = let t = round_plain c.loop-bad.invariant c.plain_end-e.ensures c.copy.ensures in
    round_close t c.if-s-e.false c.if-b-ne92.true c.if-b-q.false c.in-None.is

pub loop-bad-preserved-in-Some-value : goal.loop-bad-preserved-in-Some-value
loop-bad-preserved-in-Some-value c = let t = round_plain c.loop-bad.invariant c.plain_end-e.ensures c.copy.ensures in
    round_char t (rw c.in-Some-value.is at c.in-Ok.ensures) c.encode-out.ensures.0 c.encode-out.ensures.1

pub loop-bad-preserved : goal.loop-bad-preserved
loop-bad-preserved c = let t = round_plain c.loop-bad.invariant c.plain_end-e.ensures c.copy.ensures in
    rw c.or-bad.ensures (round_lone t (rw c.in-None-value.is at c.in-Ok.ensures))
