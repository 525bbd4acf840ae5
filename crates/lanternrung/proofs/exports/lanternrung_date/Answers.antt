-- The number and place of what `date` answers. Assumes nothing.
use mathlib.Core.Path.{ap₂}
use Prim.Native.Nat.{ℕ}
use Rattle.rules.specs.declared.exports.Status.{Status}
use Rattle.lanternrung.specs.Told.{status_of}
use Rattle.lanternrung.proofs.exports.lanternrung_date.Goals as goal

status : ℕ → ℕ → Status
status n p = record { refused = n; place = p }

pub returns : goal.returns
unfolding status_of status
returns c = record {
  answer = c.date.result;
  allowed = c.date.ensures;
  told = ap₂ status c.from.ensures.0 c.from.ensures.1;
}
