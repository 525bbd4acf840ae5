-- A fault of the grammar is given by the machine. Assumes nothing.
use mathlib.Core.Path.{◌≡◌}
use mathlib.Core.List.{List}
use Prim.Native.Nat.{ℕ}
use Rattle.meaning.specs.declared.Refusal.{Refusal}
use Rattle.grammar.specs.Refused.{ItemFault}
use Rattle.machine.specs.Machine.{No, reading}
use Rattle.machine.proofs.Refusals.Left.{depth_given}
use Rattle.machine.proofs.Refusals.NumericGiven.{number_given, time_given}
use Rattle.machine.proofs.Refusals.EscapeGiven.{escape_given}

pub given : {t : List ℕ} {r : Refusal} → ItemFault t r → reading t ≡ No r
given (ItemFault.escape {d = d} {s = s} {l = l} {a = a} {u = u} {b = b} {v = v} {q = q} r x y z n) = escape_given d s l a u b v q r x y z n
given (ItemFault.time {d = d} {l = l} {x = a} {r = r} {t = t} x y n e) = time_given d l a r t x y n e
given (ItemFault.number {d = d} {l = l} {x = a} {r = r} {n = m} x y n e) = number_given d l a r m x y n e
given (ItemFault.depth r x y) = depth_given r x y
