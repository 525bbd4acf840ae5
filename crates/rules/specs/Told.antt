-- What the two calls for C hand over (include/lanternrung_rules.h; docs/FORMAT.md, 13): the number and the place of an
-- answer that the call inside may give. Assumes nothing.
use Rattle.std.specs.Prelude.{◌≡◌, List, ℕ, Result}
use Rattle.rules.specs.Rfc3629.{Judged}
use Rattle.rules.specs.Rfc3339.{Dated}
use Rattle.rules.specs.Paper.{utf8_said, date_said, number_said, place_said}
use Rattle.rules.specs.declared.IllFormed.{IllFormed}
use Rattle.rules.specs.declared.NoDate.{NoDate}

pub record Utf8Told (s : List ℕ) (refused place : ℕ) : Type 0 where
  pub answer : Result (Unit {0}) IllFormed
  pub judged : Judged s answer
  pub number_is : refused ≡ number_said (utf8_said answer)
  pub place_is : place ≡ place_said (utf8_said answer)

pub record DateTold (year month day refused place : ℕ) : Type 0 where
  pub answer : Result (Unit {0}) NoDate
  pub dated : Dated year month day answer
  pub number_is : refused ≡ number_said (date_said answer)
  pub place_is : place ≡ place_said (date_said answer)
