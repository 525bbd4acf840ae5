-- From a bound on a count to what a part of that length asks. Assumes nothing.
use Rattle.std.specs.Prelude.{ℕ, ◌≤◌, List, length}
use Rattle.std.specs.Counts.{IsPrefixLen}
use mathlib.Core.Path.{sym}
use Rattle.std.proofs.lemmas.List.{length-take-le}

pub prefix_len_of_le : (n : ℕ) (xs : List ℕ) → n ≤ length xs → IsPrefixLen n xs
prefix_len_of_le n xs h = (h, sym (length-take-le n xs h))
