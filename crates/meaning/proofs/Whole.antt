-- A tape and a store: their sizes, and the one meaning that they have. Assumes nothing.
use mathlib.Core.Path.{◌≡◌, sym, ap, ◌∙◌}
use mathlib.Core.List.{List, ◌++◌}
use Prim.Native.Nat.{ℕ, ◌+◌, ◌*◌, ◌≤◌, ◌<◌}
use native.Mathlib.Omega.{arith}
use lib.ListN.{length, get_or, drop}
use Rattle.meaning.specs.declared.Record.{Record}
use Rattle.meaning.specs.Limits.{record_limit, store_limit}
use Rattle.meaning.specs.Meaning.{Meaning}
use Rattle.meaning.specs.Good.{GoodParts, Bytes}
use Rattle.meaning.specs.Tape.{records, store_of, bytes, records_of, record_bytes, tape_of, WellFormed}
use Rattle.meaning.proofs.Sizes.{records_length}
use Rattle.meaning.proofs.Records.{Fits, record_at, records_bytes_length, records_are_bytes, records_injective}
use Rattle.meaning.proofs.Fitting.{records_fit}
use Rattle.meaning.proofs.Rebuild.{same_meaning}

pub tape_length : (m : Meaning) → length (tape_of m) ≡ records m * 16
unfolding tape_of
tape_length m = records_bytes_length (records_of m 0 0) ∙ ap (λ (n : ℕ). n * 16) (records_length m 0 0)

pub tape_bytes_lem : (m : Meaning) → Bytes (tape_of m)
unfolding tape_of
tape_bytes_lem m = records_are_bytes (records_of m 0 0)

-- record k of a meaning stands at place k * 16 of its tape
pub tape_at : (m : Meaning) (k : ℕ) → k < records m
    → drop (k * 16) (tape_of m) ≡ record_bytes (get_or (records_of m 0 0) k Record.Null) ++ drop ((k + 1) * 16) (tape_of m)
unfolding tape_of
tape_at m k h = record_at (records_of m 0 0) k (omega (arith, records_length m 0 0))

-- the tape and the store of a meaning are of no other
pub injective : (m n : Meaning) → GoodParts m → GoodParts n → records m ≤ record_limit → records n ≤ record_limit
    → bytes m ≤ store_limit → tape_of m ≡ tape_of n → store_of m ≡ store_of n → m ≡ n
unfolding tape_of
injective m n p q h k l t s =
    let l' : bytes n ≤ store_limit = omega (arith, ap length s) in
    same_meaning m n
    (records_injective (records_of m 0 0) (records_of n 0 0) (records_fit m 0 0 p (omega arith) (omega arith)) (records_fit n 0 0 q (omega arith) (omega arith))
    t) s

-- a tape and a store are those of one meaning only
pub one_meaning : (tape store : List ℕ) (v w : WellFormed tape store) → v.meaning ≡ w.meaning
one_meaning tape store v w =
    injective v.meaning w.meaning v.good.parts w.good.parts v.few w.few v.short (sym v.taped ∙ w.taped) (sym v.stored ∙ w.stored)

module _ (tape store : List ℕ) (w : WellFormed tape store) where
  pub well_formed_length : length tape ≡ records w.meaning * 16
  well_formed_length = ap length w.taped ∙ tape_length w.meaning

  pub well_formed_fits : Fits (records_of w.meaning 0 0)
  well_formed_fits = records_fit w.meaning 0 0 w.good.parts (omega (arith, w.few)) (omega (arith, w.short))
