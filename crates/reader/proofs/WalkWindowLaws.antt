-- The windows of the search for a repeated key: the first, each next one, and what they come to. Assumes nothing.
use mathlib.Core.Path.{◌≡◌, sym, ap, ◌∙◌, subst}
use mathlib.Core.Bool.{true}
use mathlib.Core.Logic.{inr}
use mathlib.Core.List.{List}
use Prim.Native.Nat.{ℕ, ◌≤◌, ◌<◌, ◌^◌}
use native.Mathlib.Omega.{arith}
use lib.ListN.{length, replicate}
use Rattle.meaning.specs.Limits.{text_limit}
use Rattle.meaning.specs.Meaning.{Meaning}
use Rattle.meaning.specs.Between.Events.{Event, Spans}
use Rattle.grammar.specs.Values.{Loose}
use Rattle.machine.specs.Heard.{Told, telling, heard_of}
use Rattle.machine.proofs.Repeated.{text_keys_lem, heard_one}
use Rattle.once.specs.Groups.{Begun, TwiceIs, StopIs}
use Rattle.once.specs.Hash.{hash_of}
use Rattle.once.specs.Windows.{nothing, least, onward, NoneOrLater}
use Rattle.once.proofs.KeepingLaws.{zeroes_keep, begun_keeps, searched_first, searched_next}
use Rattle.reader.specs.Between.Repeat.{KeyIs, Keeping, Led}
use Rattle.reader.specs.Between.Cursor.{Seen}
use Rattle.reader.specs.Between.Walk.{WalkSays, Walked, Searching, AtWindow}
use Rattle.std.specs.Prelude.{Option, Some, Result}
use Rattle.reader.specs.declared.Counts.{Counts}

-- ---- the table before a window

pub zeroes_there : (text : List ℕ) (n : ℕ) → 16 ≤ n → n < 2 ^ 32 → Keeping text (replicate n 0) 0 0 nothing
zeroes_there text n l m = zeroes_keep (KeyIs text) (hash_of 0) n 0 l m (omega arith)

begun_there : {text seen : List ℕ} {best : Option ℕ} {from : ℕ} → AtWindow text seen best from → (seen' : List ℕ) → Begun from seen seen'
    → Keeping text seen' 0 from nothing
begun_there {text} {seen} {from = f} a seen' b = begun_keeps (KeyIs text) (hash_of f) seen seen' 0 f b a.roomy (omega arith)

pub window_seen : {text seen : List ℕ} {best : Option ℕ} {from : ℕ} → AtWindow text seen best from → (seen' : List ℕ) → Begun from seen seen'
    → Seen text seen' 0
window_seen {from = f} a seen' b = inr (f, (nothing, begun_there a seen' b))

-- ---- the keys of the text

pub keys_span : {text : List ℕ} {m : Meaning} → Loose true text m → (keys : List Event) → (telling text).heard ≡ heard_of keys → Spans 1 (length text) keys
keys_span {text} x keys h =
    let k = text_keys_lem x in
    subst (Spans 1 (length text)) (heard_one k.keys keys (sym (ap (λ (z : Told). z.heard) k.heard) ∙ h)) k.spans

-- ---- one window

module _ {text tape tape' store store' seen seen' : List ℕ} {m : Meaning} (w : Walked text tape tape' store store' seen seen' m)
    (twice stop : Option ℕ) (i : TwiceIs seen' twice) (j : StopIs seen' stop) where
  heard : (telling text).heard ≡ heard_of w.keys
  heard = ap (λ (z : Told). z.heard) w.told

  pub first_window : Keeping text seen 0 0 nothing → Spans 1 (length text) w.keys → length text ≤ text_limit
      → Searching text twice (onward twice stop)
  first_window k s l = record { keys = w.keys; told = heard; windows = searched_first (w.noted 0 nothing k) s twice stop i j; short = l }

  next_window : (best : Option ℕ) (from : ℕ) → Searching text best (Some from) → Keeping text seen 0 from nothing
      → Searching text (least best twice) (onward (least best twice) stop) × NoneOrLater from (onward (least best twice) stop)
  next_window best from s k =
      let q : w.keys ≡ s.keys = heard_one w.keys s.keys (sym heard ∙ s.told) in
      let g = subst (Led text seen' (length text) from nothing) q (w.noted from nothing k) in
      let z = searched_next g s.windows twice stop i j in
      (record { keys = s.keys; told = s.told; windows = z.0; short = s.short }, z.1)

pub window_says : {text tape tape' store store' seen₀ seen seen' : List ℕ} {best : Option ℕ} {from : ℕ} → AtWindow text seen₀ best from → Begun from seen₀ seen
    → (n : Counts) → WalkSays text tape tape' store store' seen seen' (Result.Ok n) → (twice stop : Option ℕ) → TwiceIs seen' twice → StopIs seen' stop
    → Searching text (least best twice) (onward (least best twice) stop) × NoneOrLater from (onward (least best twice) stop)
window_says {seen = seen} {best = best} {from = from} a b n (m, w, er, es) twice stop i j =
    next_window w twice stop i j best from a.searching (begun_there a seen b)
