-- The number and place of what `utf8` answers. Assumes nothing.
use mathlib.Core.Path.{ap₂}
use Prim.Native.Nat.{ℕ}
use Rattle.rules.specs.declared.exports.Status.{Status}
use Rattle.lanternrung.specs.Told.{status_of}
use Rattle.lanternrung.proofs.exports.lanternrung_utf8.Goals as goal

status : ℕ → ℕ → Status
status n p = record { refused = n; place = p }

pub returns : goal.returns
unfolding status_of status
returns c = record {
  answer = c.utf8-2.result;
  allowed = c.utf8-2.ensures;
  told = ap₂ status c.from.ensures.0 c.from.ensures.1;
}
