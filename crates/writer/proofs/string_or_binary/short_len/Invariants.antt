-- `string_or_binary::short_len`: byte by byte. Assumes nothing.
use Prim.Native.Nat.{◌+◌}
use mathlib.Core.Path.{◌≡◌}
use lib.ListN.{length, drop}
use Rattle.meaning.specs.Canonical.{escapes, quoted}
use Rattle.writer.proofs.string_or_binary.short_len.Given as goal

abbrev pub invariant-loop-b : goal.invariant-loop-b
invariant-loop-b l = l.total + length (escapes (drop l.b-index l.s)) ≡ length (quoted l.s)
