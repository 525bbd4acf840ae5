-- Windows over the keys of records, one after the other, find the first repeated key. Assumes nothing.
use mathlib.Core.Path.{◌≡◌, subst}
use mathlib.Core.Bool.{false}
use mathlib.Core.List.{List}
use Rattle.std.proofs.Common.{Option, Some, None, is_some}
use Prim.Native.Nat.{ℕ, ◌+◌, ◌≤◌, ◌<◌, ◌^◌}
use native.Mathlib.Omega.{arith}
use lib.ListN.{length, replicate}
use Rattle.meaning.specs.Between.Events.{Spans}
use Rattle.once.specs.Groups.{Begun, TwiceIs, StopIs}
use Rattle.once.specs.Hash.{hash_of}
use Rattle.once.specs.Windows.{least, onward}
use Rattle.once.proofs.KeepingLaws.{begun_keeps, zeroes_keep, searched_first, searched_next}
use Rattle.once.proofs.WindowsLaws.{search_ends}
use Rattle.tape.specs.Between.Standing.{records_from}
use Rattle.tape.specs.Between.Key.{events_below, first_of, KeyIs, Passed, Empty, Windowed, Later}
use Rattle.tape.proofs.JudgingWholeLaws.{from_length}
use Rattle.tape.proofs.KeyEventsLaws.{spans_below}

-- ---- an empty table

pub begun_empty : (tape store before seen : List ℕ) (from : ℕ) → Begun from before seen → 16 ≤ length before → Empty tape store from seen
begun_empty tape store before seen from b l = begun_keeps (KeyIs tape store) (hash_of from) before seen 0 from b l (omega arith)

pub zeroes_empty : (tape store : List ℕ) (n : ℕ) → 16 ≤ n → n < 2 ^ 32 → Empty tape store 0 (replicate n 0)
zeroes_empty tape store n l m = zeroes_keep (KeyIs tape store) (hash_of 0) n 0 l m (omega arith)

-- ---- what a pass finds

pub spans_bound : (tape store : List ℕ) (bound : ℕ) → Spans 1 (bound + 1) (events_below tape store bound)
spans_bound tape store bound =
    subst (λ (n : ℕ). Spans 1 (n + 1) (events_below tape store bound)) (from_length bound tape 0) (spans_below store (records_from bound tape 0))

module _ {tape store : List ℕ} {bound : ℕ} where
  pub first_window : {seen : List ℕ} → Passed tape store bound 0 seen → {t f n : Option ℕ} → TwiceIs seen t → StopIs seen f → n ≡ onward t f
      → Windowed tape store bound t n
  first_window g {t} {f} x y e = rw e (searched_first g (spans_bound tape store bound) t f x y)

  pub later_window : {best : Option ℕ} {from : ℕ} → Windowed tape store bound best (Some from) → {seen : List ℕ} → Passed tape store bound from seen
      → {t f b n : Option ℕ} → TwiceIs seen t → StopIs seen f → b ≡ least best t → n ≡ onward b f
      → Later tape store bound from (record { best = b; from = n })
  later_window h g {t} {f} x y e i =
      let z = searched_next g h t f x y in
      rw (i, e) (record { windowed = z.0; later = z.1 })

-- no window is left
pub searched_all : (tape store : List ℕ) (bound : ℕ) {best from : Option ℕ} → Windowed tape store bound best from → is_some from ≡ false
    → best ≡ first_of tape store bound
searched_all tape store bound {from = None} h e = search_ends h
searched_all tape store bound {from = Some f} h e = let z : ◌≡◌ {A = ℕ} 0 1 = cc in absurd (omega arith)
