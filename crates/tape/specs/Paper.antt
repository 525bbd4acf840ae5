-- What `look` answers, in the terms of docs/FORMAT.md, 10.1. Assumes nothing.
use Rattle.std.specs.Prelude.{Result, Ok, Err}
use Rattle.rules.specs.Paper.{Said, done}
use Rattle.meaning.specs.declared.Record.{Record}
use Rattle.meaning.specs.Paper.{refusal_said}
use Rattle.meaning.specs.declared.Refusal.{Refusal}

abbrev pub look_said : Result Record Refusal → Said Record
look_said (Ok r) = done r
look_said (Err why) = refusal_said why
