-- checked: a text that came in parts, cut anywhere, is answered for as `measure` answers for it, with 15 left out; by Rattle's calls and by those
-- for C. Assumes nothing.
use mathlib.Core.Path.{◌≡◌, refl, sym, ap, ◌∙◌, subst}
use mathlib.Core.Logic.{⊎_elim}
use mathlib.Core.List.{List, [], ◌∷◌, ◌++◌, append_assoc, append-nil}
use Prim.Native.Nat.{ℕ, ◌≤◌, ◌<◌}
use native.Mathlib.Omega.{arith}
use lib.ListN.{length, drop}
use lib.Seq.{length-sets}
use Rattle.rules.proofs.Characters.{Each, all_none, all_more}
use Rattle.meaning.specs.Good.{Bytes}
use Rattle.meaning.specs.Tape.{records, bytes}
use Rattle.reader.specs.Answers.{Answer, counts, Measures, Loosely}
use Rattle.reader.proofs.Claims as reader
use Rattle.arriving.specs.declared.Check.{Check}
use Rattle.arriving.specs.Between.Arriving.{started, fed, feds, ended, joined}
use Rattle.arriving.specs.Between.Packing.{packed, unpacked, padded}
use Rattle.arriving.proofs.Checked.{checked_loosely}
use Rattle.arriving.proofs.PackingStateLaws.{padded_long, state_back, state_past}
use Rattle.lanternrung.specs.Told.{Keeps, kept_in}
use Rattle.lanternrung.specs.Claims.{Came, CameC, LeftOut, Checked}
use Rattle.lanternrung.proofs.Claims.Reading.{repeated_key}

each_byte : (s : List ℕ) → Bytes s → Each (λ (b : ℕ). b < 256) s
each_byte [] h = all_none
each_byte (b ∷ s) h = all_more h.0 (each_byte s h.1)

-- ---- one part more

joined_more : (ps : List (List ℕ)) (p : List ℕ) → joined (ps ++ (p ∷ [])) ≡ joined ps ++ p
joined_more [] p = append-nil p
joined_more (q ∷ ps) p = ap (λ (s : List ℕ). q ++ s) (joined_more ps p) ∙ sym (append_assoc q (joined ps) p)

feds_more : (c : Check) (ps : List (List ℕ)) (p : List ℕ) → feds c (ps ++ (p ∷ [])) ≡ fed (feds c ps) p
unfolding feds
feds_more c [] p = refl
feds_more c (q ∷ ps) p = feds_more (fed c q) ps p

-- the parts that a check has come from
record Parts (text : List ℕ) (c : Check) : Type 0 where
  parts : List (List ℕ)
  joins : joined parts ≡ text
  comes : feds started parts ≡ c

none_yet : Parts [] started
unfolding feds
none_yet = record { parts = []; joins = refl; comes = refl }

one_more : {text : List ℕ} {c : Check} (p : List ℕ) → Parts text c → Parts (text ++ p) (fed c p)
one_more p x =
    record {
      parts = x.parts ++ (p ∷ []);
      joins = joined_more x.parts p ∙ ap (λ (s : List ℕ). s ++ p) x.joins;
      comes = feds_more started x.parts p ∙ ap (λ (c : Check). fed c p) x.comes;
    }

came : {text : List ℕ} {c : Check} → Came text c → Parts text c
came Came.start = none_yet
came (Came.feed p x) = one_more p (came x)

-- ---- the bytes that C keeps

record PartsC (text state : List ℕ) : Type 0 where
  enough : 640 ≤ length state
  of : Parts text (kept_in state)

kept_enough : {c : Check} {s t : List ℕ} → Keeps c s t → 640 ≤ length s → 640 ≤ length t
kept_enough {c} {s} k h = omega (arith, ap length k.put, length-sets s 0 (packed c))

kept_is : {c : Check} {s t : List ℕ} → Keeps c s t → 640 ≤ length s → kept_in t ≡ c
kept_is {c} {s} k h = ap (λ (x : List ℕ). kept_in x) k.put ∙ state_back s c k.back h

came_c : {text state : List ℕ} → CameC text state → PartsC text state
came_c (CameC.start h k) = record { enough = kept_enough k h; of = subst (Parts []) (sym (kept_is k h)) none_yet }
came_c (CameC.feed {text} {state} part x k) =
    let y = came_c x in
    record {
      enough = kept_enough k y.enough;
      of = subst (Parts (text ++ part)) (sym (kept_is k y.enough)) (one_more part y.of);
    }
came_c (CameC.copied {text} {state} {other} x h e) =
    let y = came_c x in
    let f : padded state ≡ padded other = padded_long state y.enough ∙ sym e ∙ sym (padded_long other h) in
    record { enough = h; of = subst (Parts text) (ap unpacked f) y.of }

-- ---- the claim

past : {c : Check} {s t : List ℕ} → Keeps c s t → (length t ≡ length s) × (drop 640 t ≡ drop 640 s)
past {c} {s} k = (ap length k.put ∙ length-sets s 0 (packed c), ap (drop 640) k.put ∙ state_past s c k.back)

answered : {text : List ℕ} {c : Check} → Parts text c → Bytes text → Loosely text (ended c)
answered {text} {c} x b =
    subst (λ (d : Check). Loosely text (ended d)) x.comes
    (subst (λ (s : List ℕ). Loosely s (ended (feds started x.parts))) x.joins
    (checked_loosely x.parts (each_byte (joined x.parts) (subst Bytes (sym x.joins) b))))

left_out : {text : List ℕ} {a b : Answer} → Measures text a → Loosely text b → LeftOut a b
left_out {text} {a} {b} p q =
    record {
      repeated = λ n e.
          let w = (repeated_key.measure p).0 e in
          let m = w.meaning in
          (records m, bytes m, reader.one_outcome_loosely text b (counts (records m) (bytes m)) q (Loosely.sizes w.means refl));
      same = λ n. ⊎_elim (λ e. e) (λ w. absurd (n w.0 w.1)) (reader.left_out text a b p q);
    }

pub checked : Checked
checked =
    record {
      parts = λ ps b. checked_loosely ps (each_byte (joined ps) b);
      finish = λ x b. answered (came x) b;
      finish_c = λ {text} {state} x b e. record { answer = ended (kept_in state); allowed = answered (came_c x).of b; told = e };
      left_out = left_out;
      start_past = λ k. past k;
      feed_past = λ part k. past k;
    }
