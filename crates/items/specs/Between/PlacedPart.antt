-- A part by itself (docs/FORMAT.md, 3 and 4), at its place in a text: what it means, and what it puts into the store.
-- Assumes nothing.
use Rattle.std.specs.Prelude.{◌≡◌, List, ℕ, ◌+◌, ◌≤◌, ◌<◌, length, drop}
use Rattle.std.proofs.lemmas.List.Edits.{sets}
use Rattle.machine.specs.Scan.{Out, ended, ran}

-- these bytes, put from `start` on, are no more than the text they are read from
pub record Meant (start : ℕ) (entry exit u : List ℕ) (n p q : ℕ) : Type 0 where
  pub counted : n ≡ length u
  pub filled : exit ≡ sets entry start u
  pub room : p + length u ≤ q
  pub past : p < q

-- from p to q the scanner takes a part of n bytes
module _ {S : Type 0} (scan : ℕ → S → ℕ → Out S (List ℕ)) (begin : S) where
  pub record Ended (text : List ℕ) (p start : ℕ) (entry exit : List ℕ) (q n : ℕ) : Type 0 where
    pub u : List ℕ
    pub runs : ran scan p begin (drop p text) ≡ ended u q
    pub meant : Meant start entry exit u n p q
    pub within : q ≤ length text
