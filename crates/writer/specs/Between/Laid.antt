-- Text laid over bytes that stand there: what a writer of one piece (docs/FORMAT.md, 12) promises. Assumes nothing.
use Rattle.std.specs.Prelude.{◌≡◌, List, ◌++◌, ℕ, ◌+◌, length, take, drop}
pub use Rattle.meaning.specs.Bytes.{laid}

-- t over o from the place `at` on
abbrev pub laid_at : List ℕ → ℕ → List ℕ → List ℕ
laid_at t at o = take at o ++ (t ++ drop (at + length t) o)

-- A writer that was lent the part o of the output wrote t over its start, left `out` there, and answers t's length.
pub record Put (t o out : List ℕ) (r : ℕ) : Type 0 where
  pub size : r ≡ length t
  pub text : out ≡ laid t o

-- A writer at a place of o wrote t there, left `out`, and answers the place right after t.
pub record PutAt (t : List ℕ) (at : ℕ) (o out : List ℕ) (r : ℕ) : Type 0 where
  pub next : r ≡ at + length t
  pub text : out ≡ laid_at t at o
