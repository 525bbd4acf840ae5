-- What `measure` and `read` make of a walk over a text. Assumes nothing.
use mathlib.Core.Path.{◌≡◌, refl, sym, ap, ap₂, ◌∙◌, subst}
use mathlib.Core.Bool.{true, false}
use mathlib.Core.Option as maybe
use mathlib.Core.List.{List, [], ◌∷◌}
use Prim.Native.Nat.{ℕ, suc, ◌*◌, ◌≤◌, ◌<◌}
use native.Mathlib.Omega.{arith}
use lib.ListN.{length, replicate, set}
use lib.Seq.{sets}
use Rattle.rules.specs.declared.IllFormed.{IllFormed}
use Rattle.rules.specs.Paper.{done, refused}
use Rattle.rules.specs.Rfc3629.{Judged}
use Rattle.rules.proofs.Outcomes.{done_apart, utf8_done, utf8_fault}
use Rattle.meaning.specs.declared.Refusal.{Refusal}
use Rattle.meaning.specs.declared.Refusal.TheVariants.{TextTooLong, NotUtf8, TapeTooShort, StoreTooShort, RepeatedKey}
use Rattle.meaning.specs.Bytes.{laid}
use Rattle.meaning.specs.Limits.{text_limit}
use Rattle.meaning.specs.Meaning.{Meaning}
use Rattle.meaning.specs.Tape.{records, bytes, tape_of, store_of}
use Rattle.meaning.proofs.Whole.{tape_length}
use Rattle.meaning.specs.Between.Events.{first_repeat}
use Rattle.grammar.specs.Values.{Loose, Text}
use Rattle.grammar.specs.Refused.{LooseRefused, loose, too_long, not_utf8}
use Rattle.machine.specs.Machine.{Ok, No, reading}
use Rattle.machine.specs.Heard.{Told}
use Rattle.machine.proofs.Complete.{reads}
use Rattle.machine.proofs.Sound.{derives}
use Rattle.machine.proofs.Refusals.Whole.{refusals}
use Rattle.machine.proofs.Accepted.{none_accepted, first_refused}
use Rattle.once.specs.Groups.{TwiceIs, StopIs}
use Rattle.once.specs.Windows.{given, onward}
use Rattle.once.proofs.WindowsLaws.{search_ends}
use Rattle.reader.specs.Answers.{Answer, counts, answer_said, Measures, Reads, filled, tape_short, store_short}
use Rattle.reader.specs.Between.Walk.{WalkSays, Searching, AnsweredSays}
use Rattle.std.specs.Prelude.{Option, Some, None, is_some, Result}
use Rattle.reader.specs.declared.Counts.{Counts}
use Rattle.reader.proofs.Claims.{Sized, measure_accepts, bounded}
use Rattle.reader.proofs.WalkWindowLaws.{zeroes_there, keys_span, first_window}

no_meaning : {m : Meaning} {why : Refusal} → Ok m ≡ No why → ⊥
no_meaning e = let z : ◌≡◌ {A = ℕ} 0 1 = cc in omega arith

-- ---- measure

-- a text with a meaning whose keys may repeat, the sizes of that, and the first window of the search for a repeated key
pub record Counted (text seen : List ℕ) (n : Counts) : Type 0 where
  pub meaning : Meaning
  pub means : Loose true text meaning
  pub counted : n.records ≡ records meaning
  pub held : n.bytes ≡ bytes meaning
  pub searching : (twice stop : Option ℕ) → TwiceIs seen twice → StopIs seen stop → Searching text twice (onward twice stop)

module _ (text : List ℕ) where
  pub measure_long : text_limit < length text → Measures text (Result.Err TextTooLong)
  measure_long h = Measures.no_text (loose (too_long h)) refl

  module _ (h : length text ≤ text_limit) where
    pub measure_ill : (e : IllFormed) → Judged text (Result.Err e) → Measures text (Result.Err (NotUtf8 e.place))
    measure_ill e j = Measures.no_text (loose (not_utf8 h (utf8_fault j))) refl

    module _ {u : Unit {0}} (j : Judged text (Result.Ok u)) where
      pub measure_refused : (why : Refusal) → reading text ≡ No why → Measures text (Result.Err why)
      measure_refused why w =
          let o = utf8_done j in
          Measures.no_text (loose (LooseRefused.refused h o ((refusals text o why).0 w))) refl

      -- after the first walk, with its table
      pub measure_counted : {tape tape' store store' seen' : List ℕ} {n : Counts} → WalkSays text tape tape' store store' (replicate 520 0) seen' (Result.Ok n)
          → Counted text seen' n
      measure_counted (m, w, er, es) =
          let x = derives text m (utf8_done j) h w.reads in
          record {
            meaning = m;
            means = x;
            counted = er;
            held = es;
            searching = λ twice stop i z.
                first_window w twice stop i z (zeroes_there text 520 (omega arith) (omega arith)) (keys_span x w.keys (ap (λ (t : Told). t.heard) w.told)) h;
          }

module _ {text seen : List ℕ} {n : Counts} (t : Counted text seen n) where
  -- no window refuses what the first walk did not
  pub search_refused : (why : Refusal) → reading text ≡ No why → ⊥
  search_refused why e = no_meaning (sym (reads t.means) ∙ e)

  -- after the first walk, where no further window is needed
  pub all_searched : (twice stop from : Option ℕ) → TwiceIs seen twice → StopIs seen stop → from ≡ onward twice stop → is_some from ≡ false
      → Searching text twice None
  all_searched twice stop None i z e f = subst (Searching text twice) (sym e) (t.searching twice stop i z)
  all_searched twice stop (Some p) i z e f = absurd (let y : ◌≡◌ {A = ℕ} 0 1 = cc in omega arith)

  -- after the last window
  pub measure_answered : (best : Option ℕ) → Searching text best None → (a : Answer) → AnsweredSays best n a → Measures text a
  measure_answered best q a g = go (first_repeat [] q.keys) refl
    where
      go : (x : maybe.Option ℕ) → first_repeat [] q.keys ≡ x → Measures text a
      go maybe.none e =
          let i : a ≡ Result.Ok n = subst (λ (b : Option ℕ). AnsweredSays b n a) (search_ends q.windows ∙ ap given e) g in
          Measures.sizes (none_accepted t.means q.keys q.told e) (ap answer_said i ∙ ap₂ (λ (x y : ℕ). done (x, y)) t.counted t.held)
      go (maybe.some p) e =
          let i : a ≡ Result.Err (RepeatedKey p) = subst (λ (b : Option ℕ). AnsweredSays b n a) (search_ends q.windows ∙ ap given e) g in
          Measures.no_text (first_refused t.means q.keys q.told p e) (ap answer_said i)

-- ---- read

sets_suc : (x : ℕ) (l v : List ℕ) (i : ℕ) → sets (x ∷ l) (suc i) v ≡ x ∷ sets l i v
sets_suc x l [] i = refl
sets_suc x l (a ∷ v) i = sets_suc x (set l i a) v (suc i)

sets_front : (l v : List ℕ) → length v ≤ length l → sets l 0 v ≡ laid v l
sets_front l [] h = refl
sets_front [] (a ∷ v) h = absurd (omega arith)
sets_front (x ∷ l) (a ∷ v) h = sets_suc a l v 0 ∙ ap (λ (t : List ℕ). a ∷ t) (sets_front l v (omega arith))

text_short : {t : List ℕ} {m : Meaning} → Loose true t m → length t ≤ text_limit
text_short (Loose.text w v l h) = h

module _ (text tape store : List ℕ) where
  pub read_refused : (why : Refusal) → Measures text (Result.Err why) → Reads text tape store (Result.Err why) tape store
  read_refused why (Measures.sizes x e) = absurd (done_apart (sym e))
  read_refused why (Measures.no_text x e) = Reads.no_text x e

  module _ (r s : ℕ) (e : Measures text (counts r s)) where
    its : Sized text r s
    its = measure_accepts text r s e

    pub read_tape_short : length tape < r * 16 → Reads text tape store (Result.Err (TapeTooShort (r * 16))) tape store
    read_tape_short h = tape_short its.text_means (omega (arith, its.counted)) (ap (λ (x : ℕ). refused 8 (x * 16)) its.counted)

    pub read_store_short : r * 16 ≤ length tape → length store < s → Reads text tape store (Result.Err (StoreTooShort s)) tape store
    read_store_short h k = store_short its.text_means (omega (arith, its.counted)) (omega (arith, its.held)) (ap (refused 9) its.held)

    pub read_short : length text ≤ text_limit
    read_short = text_short its.text_means.loose

    pub read_few : r ≤ length text
    read_few = (bounded its).0

    -- the walk comes to the meaning that was measured
    walked_as : (m : Meaning) → reading text ≡ Ok m → its.meaning ≡ m
    walked_as m w = same_ok (sym (reads its.text_means.loose) ∙ w)
      where
        same_ok : {x y : Meaning} → Ok x ≡ Ok y → x ≡ y
        same_ok z = cc

    pub read_walked : (tape' store' : List ℕ) (a : Answer) → r * 16 ≤ length tape → s ≤ length store
        → (seen seen' : List ℕ) → WalkSays text tape tape' store store' seen seen' a → Reads text tape store a tape' store'
    read_walked tape' store' (Result.Err why) h k seen seen' w = absurd (no_meaning (sym (reads its.text_means.loose) ∙ w))
    read_walked tape' store' (Result.Ok n) h k seen seen' (m, w, ex, ey) =
        let z = walked_as m w.reads in
        let i : r ≡ records m = its.counted ∙ ap records z in
        let b : s ≡ bytes m = its.held ∙ ap bytes z in
        let t : tape' ≡ laid (tape_of m) tape = w.taped (omega arith) ∙ sets_front tape (tape_of m) (omega (arith, tape_length m)) in
        let u : store' ≡ laid (store_of m) store = w.filled ∙ sets_front store (store_of m) (omega arith) in
        rw (t, u) (filled (subst (Text text) z its.text_means) (omega arith) (omega arith) (ap₂ (λ (i j : ℕ). done (i, j)) ex ey))
