-- What the functions that read a word (docs/FORMAT.md, 1.2) promise, against the machine's scanner. Assumes nothing.
use Rattle.std.specs.Prelude.{◌≡◌, List, ℕ, ◌≤◌, length, Result, Ok, Err}
use Rattle.meaning.specs.declared.Refusal.TheVariants.{NotGrammar}
use Rattle.machine.specs.Scan.{ended, broke}
use Rattle.machine.specs.Names.{word_scan}
use Rattle.items.specs.Between.Places.{ran_at}
use Rattle.items.specs.declared.NotGrammar as items

-- each letter of a word comes from p on, or the first that does not would stand at q
abbrev pub WordSays : List ℕ → ℕ → List ℕ → Result ℕ items.NotGrammar → Type 0
WordSays s p letters (Ok q) = (ran_at word_scan s letters p ≡ ended tt q) × (q ≤ length s)
WordSays s p letters (Err e) = (ran_at word_scan s letters p ≡ broke (NotGrammar e.place)) × (e.place ≤ length s)
