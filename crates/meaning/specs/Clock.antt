-- Time of day (docs/FORMAT.md, 6). Assumes nothing.
use Rattle.std.specs.Prelude.{ℕ, ◌+◌, ◌*◌}
use Rattle.meaning.specs.Limits.{second}

-- ((hour x 60 + minute) x 60 + second) x 10^9 + nanoseconds
abbrev pub time_of_day : ℕ → ℕ → ℕ → ℕ → ℕ
time_of_day hours minutes seconds nanoseconds = ((hours * 60 + minutes) * 60 + seconds) * second + nanoseconds
