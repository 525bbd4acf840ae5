-- How many records, how many bytes, how deep. Assumes nothing.
use mathlib.Core.Path.{◌≡◌, refl}
use mathlib.Core.Bool.{Bool, true, false, cond}
use Prim.Native.Nat.{ℕ, ◌+◌, ◌≤◌, ◌<◌, ◌^◌}
use native.Mathlib.Omega.{arith}
use lib.Dec.{leb}
use lib.ListN.{length, length-append}
use borrow.Author.Tests.{leb-true, leb-false}
use Rattle.meaning.specs.Limits.{depth_limit}
use Rattle.meaning.specs.Meaning.{Meaning, Meanings, Members, null, bool, number, string, binary, time, array, object, none, more, bare, member}
use Rattle.meaning.specs.Good.{most}
use Rattle.meaning.specs.Tape.{records, elements_records, members_records, elements_count, members_count, elements_store, members_store}
use Rattle.meaning.specs.Tape.{records_of, elements_of, members_of}

-- room for the depth in any counter of the code
pub depth_limit_small : depth_limit < 2 ^ 16
unfolding depth_limit
depth_limit_small = omega arith

pub most_left : (a b : ℕ) → a ≤ most a b
unfolding most
most_left a b = go (leb a b) refl
  where
    go : (t : Bool) → leb a b ≡ t → a ≤ cond t b a
    go true e = leb-true a b e
    go false e = omega arith

pub most_right : (a b : ℕ) → b ≤ most a b
unfolding most
most_right a b = go (leb a b) refl
  where
    go : (t : Bool) → leb a b ≡ t → b ≤ cond t b a
    go true e = omega arith
    go false e = omega (arith, leb-false a b e)

pub most_least : (a b n : ℕ) → a ≤ n → b ≤ n → most a b ≤ n
unfolding most
most_least a b n h g = go (leb a b)
  where
    go : (t : Bool) → cond t b a ≤ n
    go true = g
    go false = h

-- a meaning has its own record
pub some_record : (m : Meaning) → 1 ≤ records m
unfolding records
some_record null = omega arith
some_record (bool b) = omega arith
some_record (number n) = omega arith
some_record (string s) = omega arith
some_record (binary s) = omega arith
some_record (time t) = omega arith
some_record (array ms) = omega arith
some_record (object ms) = omega arith

-- no more elements or members than records
pub elements_few : (ms : Meanings) → elements_count ms ≤ elements_records ms
unfolding elements_count records
elements_few none = omega arith
elements_few (more ms m) = omega (arith, elements_few ms, some_record m)

pub members_few : (ms : Members) → members_count ms ≤ members_records ms
unfolding members_count records
members_few bare = omega arith
members_few (member ms k m) = omega (arith, members_few ms)

mutual
  unfolding records_of records

  pub records_length : (m : Meaning) (i at : ℕ) → length (records_of m i at) ≡ records m
  records_length null i at = refl
  records_length (bool b) i at = refl
  records_length (number n) i at = refl
  records_length (string s) i at = refl
  records_length (binary s) i at = refl
  records_length (time t) i at = refl
  records_length (array ms) i at = let e = elements_length ms (i + 1) at in omega arith
  records_length (object ms) i at = let e = members_length ms (i + 1) at in omega arith

  pub elements_length : (ms : Meanings) (i at : ℕ) → length (elements_of ms i at) ≡ elements_records ms
  elements_length none i at = refl
  elements_length (more ms m) i at =
      let e = elements_length ms i at in
      let f = records_length m (i + elements_records ms) (at + length (elements_store ms)) in
      simp length-append (omega arith)

  pub members_length : (ms : Members) (i at : ℕ) → length (members_of ms i at) ≡ members_records ms
  members_length bare i at = refl
  members_length (member ms k m) i at =
      let e = members_length ms i at in
      let f = records_length m (i + members_records ms + 1) (at + length (members_store ms) + length k) in
      simp length-append (omega arith)
