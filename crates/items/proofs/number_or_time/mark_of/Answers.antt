-- Each answer by the tests that led to it. Assumes nothing.
use native.Mathlib.Omega.{arith}
use Rattle.items.specs.Between.NumberOrTime.{Marks}
use Rattle.items.proofs.number_or_time.mark_of.Goals as goal

pub returns-in-2-eq58 : goal.returns-in-2-eq58
returns-in-2-eq58 c = Marks.colon c.in-2-eq58.is-0 c.in-2-eq58.is-1

pub returns-in-4-eq45 : goal.returns-in-4-eq45
returns-in-4-eq45 c = Marks.dash c.in-4-eq45.is-0 c.in-4-eq45.is-1

pub returns-in-1-eq120 : goal.returns-in-1-eq120
returns-in-1-eq120 c = Marks.letter c.in-1-eq120.is-0 c.if-d-eq48.true c.in-1-eq120.is-1

pub returns-in_default : goal.returns-in_default
returns-in_default c = Marks.other (λ a b. grind arith) (λ a b. grind arith) (λ a b e. grind arith) (λ a b e. grind arith)

pub returns-in_default-2 : goal.returns-in_default-2
returns-in_default-2 c = Marks.other (λ a b. grind arith) (λ a b. grind arith) (λ a b e. grind arith) (λ a b e. grind arith)

pub returns-in_default-3 : goal.returns-in_default-3
returns-in_default-3 c = Marks.other (λ a b. grind arith) (λ a b. grind arith) (λ a b e. grind arith) (λ a b e. grind arith)

pub returns-in_default-4 : goal.returns-in_default-4
returns-in_default-4 c = Marks.other (λ a b. grind arith) (λ a b. grind arith) (λ a b e. grind arith) (λ a b e. grind arith)

pub returns-in_default-5 : goal.returns-in_default-5
returns-in_default-5 c = Marks.other (λ a b. grind arith) (λ a b. grind arith) (λ a b e. grind arith) (λ a b e. grind arith)
