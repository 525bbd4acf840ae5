-- Each answer in the terms of docs/FORMAT.md, 10.1: done with what it hands over, or a refusal's number and place.
-- Assumes nothing.
use Rattle.std.specs.Prelude.{ℕ, Result, Ok, Err}
use Rattle.rules.specs.declared.IllFormed.{IllFormed}
use Rattle.rules.specs.declared.NoDate.{NoDate}

pub data Said (X : Type 0) : Type 0 where
  done : X → Said X
  -- a number and a place
  refused : ℕ → ℕ → Said X

-- 2: not UTF-8, at the first byte of the first ill-formed sequence
abbrev pub utf8_said : Result (Unit {0}) IllFormed → Said (Unit {0})
utf8_said (Ok v) = done tt
utf8_said (Err e) = refused 2 e.place

-- 5: no date, at 0
abbrev pub date_said : Result (Unit {0}) NoDate → Said (Unit {0})
date_said (Ok v) = done tt
date_said (Err e) = refused 5 0

-- the number of a refusal, 0 where there is none, and its place: what the calls for C hand over
abbrev pub number_said : {X : Type 0} → Said X → ℕ
number_said (done v) = 0
number_said (refused number place) = number

abbrev pub place_said : {X : Type 0} → Said X → ℕ
place_said (done v) = 0
place_said (refused number place) = place
