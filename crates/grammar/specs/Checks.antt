-- The checks beside the grammar: number range, calendar and clock, surrogates and 10FFFF, depth, the text's length
-- (docs/FORMAT.md, 8). A rule that has one takes a Bool. With `true` the rules are JAXN as accepted. With `false`
-- they are the bare grammar, by which Refused says where a text stops being grammar; there a text whose checks fail
-- means what the same formulas give (a surrogate by itself is encoded as if it were a character, and so a pair has
-- two meanings), and nothing rests on such a meaning. Assumes nothing.
use Rattle.std.specs.Prelude.{ℕ, suc, Bool, true, false}

-- the premise P, where the checks are on
abbrev pub Checked : Bool → Type 0 → Type 0
Checked true P = P
Checked false P = Unit

-- a bracket where d more may open leaves e more
pub data Room : Bool → ℕ → ℕ → Type 0 where
  falls : {d : ℕ} → Room true (suc d) d
  stays : {d : ℕ} → Room false d d
