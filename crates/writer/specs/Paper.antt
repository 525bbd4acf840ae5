-- What the writers answer, in the terms of docs/FORMAT.md, 10.1: the length of the text, or a refusal. Assumes nothing.
use Rattle.std.specs.Prelude.{ℕ, Result, Ok, Err}
use Rattle.rules.specs.Paper.{Said, done}
use Rattle.meaning.specs.declared.Refusal.{Refusal}
use Rattle.meaning.specs.Paper.{refusal_said}

abbrev pub write_said : Result ℕ Refusal → Said ℕ
write_said (Ok size) = done size
write_said (Err why) = refusal_said why
