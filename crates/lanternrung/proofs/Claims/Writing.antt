-- written, same_text, read-back, filed_before: what the writers print, and what reading that gives. Assumes nothing.
use mathlib.Core.Path.{◌≡◌, refl, sym, ap, ap₂, ◌∙◌, subst}
use mathlib.Core.Logic.{◌↔◌}
use mathlib.Core.Bool.{true}
use mathlib.Core.List.{List, ◌++◌, append-nil}
use mathlib.Core.Option.{none}
use Prim.Native.Nat.{ℕ, ◌*◌, ◌≤◌}
use native.Mathlib.Omega.{arith}
use lib.ListN.{length, take, drop, drop_of_length-le}
use lib.Seq.{take_at}
use Rattle.std.specs.Prelude.{Result, Ok}
use Rattle.meaning.specs.declared.Refusal.{Refusal}
use Rattle.meaning.specs.Limits.{text_limit}
use Rattle.meaning.specs.Meaning.{Meaning}
use Rattle.meaning.specs.Good.{Good}
use Rattle.meaning.specs.Tape.{bytes, tape_of, store_of, WellFormed}
use Rattle.meaning.specs.Canonical.{canonical}
use Rattle.meaning.specs.Json.{no_json}
use Rattle.meaning.proofs.Whole.{one_meaning, tape_length, well_formed_length}
use Rattle.grammar.specs.Values.{Loose, Text}
use Rattle.grammar.proofs.Good.{text_good}
use Rattle.grammar.proofs.Sizes.{text_fits}
use Rattle.grammar.proofs.Canonical.{text_derived, filed_derived}
use Rattle.machine.proofs.Whole.{same_canonical}
use Rattle.reader.specs.Answers.{Answer, counts, tape_bytes, Reads}
use Rattle.reader.proofs.Claims.{one_outcome_read, reads_as, read_accepts}
use Rattle.writer.specs.Written.{Writes, too_long, too_short, WritesJaxn, WritesJson}
use Rattle.writer.proofs.Outcomes as writer
use Rattle.lanternrung.specs.Claims.{Room, Prints, WrittenJaxn, WrittenJson, IsWritten, SameText, Again, ReadBack, FiledBefore, Holds}
use Rattle.lanternrung.proofs.Claims.Reading.{accepted}

-- from the text to the output
printed : {t out out' : List ℕ} {a : Result ℕ Refusal} → Room t out → Writes t out a out' → Prints t out a out'
printed r (too_long h s) = absurd (omega (arith, r.short))
printed r (too_short h g s) = absurd (omega (arith, r.fits))
printed {t} {a = a} r (Writes.written h g s) = record { answer = writer.same_written a (Ok (length t)) s; holds = refl }

-- done: then within the limit, and with room
roomy : {t out out' : List ℕ} {a : Result ℕ Refusal} {n : ℕ} → Writes t out a out' → a ≡ Ok n → Room t out
roomy (too_long h s) e = absurd (writer.wrote_apart s e)
roomy (too_short h g s) e = absurd (writer.wrote_apart s e)
roomy (Writes.written h g s) e = record { short = h; fits = g }

module _ {tape store out : List ℕ} where
  jaxn_done : {a : Result ℕ Refusal} {out' : List ℕ} {n : ℕ} → WritesJaxn tape store out a out' → a ≡ Ok n → (w : WellFormed tape store)
      × Room (canonical w.meaning) out
  jaxn_done (WritesJaxn.ill n s) e = absurd (writer.wrote_apart s e)
  jaxn_done (WritesJaxn.text w p) e = (w, roomy p e)

  json_done : {a : Result ℕ Refusal} {out' : List ℕ} {n : ℕ} → WritesJson tape store out a out' → a ≡ Ok n → (w : WellFormed tape store)
      × (no_json w.meaning ≡ none) × Room (canonical w.meaning) out
  json_done (WritesJson.ill n s) e = absurd (writer.wrote_apart s e)
  json_done (WritesJson.formless w f s) e = absurd (writer.wrote_apart s e)
  json_done (WritesJson.text w f p) e = (w, f, roomy p e)

  jaxn_written : {a : Result ℕ Refusal} {out' : List ℕ} → WritesJaxn tape store out a out' → WrittenJaxn tape store out a out'
  jaxn_written {a} {out'} p = record {
    exactly = (λ d. jaxn_done p d.1, λ w. (length (canonical w.0.meaning), (prints w.0 w.1).answer));
    then =
        prints;
  }
    where
      prints : (w : WellFormed tape store) → Room (canonical w.meaning) out → Prints (canonical w.meaning) out a out'
      prints w r = printed r (writer.written_jaxn w p)

  json_written : {a : Result ℕ Refusal} {out' : List ℕ} → WritesJson tape store out a out' → WrittenJson tape store out a out'
  json_written {a} {out'} p = record {
    exactly = (λ d. json_done p d.1, λ w. (length (canonical w.0.meaning), (prints w.0 w.1 w.2).answer));
    then = prints;
  }
    where
      prints : (w : WellFormed tape store) → no_json w.meaning ≡ none → Room (canonical w.meaning) out → Prints (canonical w.meaning) out a out'
      prints w f r = printed r (writer.written_json w f p)

pub text_length : {t : List ℕ} {m : Meaning} → Loose true t m → length t ≤ text_limit
text_length (Loose.text w v l h) = h

filled : {text tape store : List ℕ} {r s : ℕ} {tape' store' : List ℕ} → Reads text tape store (counts r s) tape' store'
    → (w : WellFormed (take (r * 16) tape') (take s store')) × Text text w.meaning
filled {text} {tape} {store} {r} {s} {tape'} {store'} p =
    let h = read_accepts text tape store r s tape' store' p in
    let m = h.meaning in
    let x = h.text_means in
    let f = text_fits x.loose in
    let l = text_length x.loose in (
      record {
        meaning = m;
        good = text_good x;
        few = omega (arith, f.few);
        short = omega (arith, f.small);
        taped = ap (take (r * 16)) h.taped ∙ take_at (tape_of m) (drop (length (tape_of m)) tape) (r * 16) (omega (arith, tape_length m, h.counted));
        stored = ap (take s) h.stored ∙ take_at (store_of m) (drop (length (store_of m)) store) s (sym h.held);
      },
      x,
    )

pub written : IsWritten
written = record { one_meaning = λ {tape} {store}. one_meaning tape store; jaxn = jaxn_written; json = json_written; filled = filled }

-- ---- same_text: the canonical texts are the same bytes exactly when the meanings are the same

pub same_text : SameText
same_text = record { texts = λ x y. same (text_good x) (text_good y); meanings = same }
  where
    same : {m n : Meaning} → Good m → Good n → (canonical m ≡ canonical n) ↔ (m ≡ n)
    same {m} {n} g h = (same_canonical m n g h, ap canonical)

-- ---- read-back: the canonical text of a meaning within the limits is accepted, and gives the same tape and store

back_meaning : {m : Meaning} {tape store : List ℕ} {a : Answer} {tape' store' : List ℕ} → Good m → length (canonical m) ≤ text_limit
    → tape_bytes m ≤ length tape
    → bytes m ≤ length store
    → Reads (canonical m) tape store a tape' store' → Holds m tape store a tape' store'
back_meaning {m} g l h k p = (accepted p).then m (record { means = text_derived m g l; tape_room = h; store_room = k })

back_text : {text : List ℕ} {m : Meaning} {tape store : List ℕ} {a b : Answer} {t u s v : List ℕ} → Text text m → length (canonical m) ≤ text_limit
    → Reads text tape store a t s → Reads (canonical m) tape store b u v → (a ≡ b) × (t ≡ u) × (s ≡ v)
back_text x l p q = one_outcome_read p (reads_as (text_derived _ (text_good x) l) x q)

-- over a buffer that is no longer
all_of : (x t : List ℕ) → length t ≤ length x → x ++ drop (length x) t ≡ x
all_of x t h = rw (drop_of_length-le t h) (append-nil x)

module _ {tape store out : List ℕ} {n : ℕ} {out' t s : List ℕ} {a : Answer} {t' s' : List ℕ} where
  back : (w : WellFormed tape store) → Room (canonical w.meaning) out → Prints (canonical w.meaning) out (Ok n) out'
      → length t ≡ length tape → length s ≡ length store → Reads (take n out') t s a t' s' → Again tape store a t' s'
  back w r p h k q =
      let m = w.meaning in
      let size = p.answer in
      let e : length (canonical m) ≡ n = cc in
      let f : take n out' ≡ canonical m = rw p.holds (take_at (canonical m) (drop (length (canonical m)) out) n e) in
      let lt = well_formed_length tape store w in
      let ls = ap length w.stored in
      let x = back_meaning w.good r.short (omega arith) (omega arith) (subst (λ (i : List ℕ). Reads i t s a t' s') f q) in
      record {
        answer = x.answer ∙ ap₂ counts (omega arith) (sym ls);
        taped = x.taped ∙ all_of (tape_of m) t (omega (arith, tape_length m)) ∙ sym w.taped;
        stored = x.stored ∙ all_of (store_of m) s (omega arith) ∙ sym w.stored;
      }

  back_jaxn : WritesJaxn tape store out (Ok n) out' → length t ≡ length tape → length s ≡ length store → Reads (take n out') t s a t' s' → Again
      tape store a t' s'
  back_jaxn p h k q = let d = jaxn_done p refl in back d.0 d.1 ((jaxn_written p).then d.0 d.1) h k q

  back_json : WritesJson tape store out (Ok n) out' → length t ≡ length tape → length s ≡ length store → Reads (take n out') t s a t' s' → Again
      tape store a t' s'
  back_json p h k q = let d = json_done p refl in back d.0 d.2 ((json_written p).then d.0 d.1 d.2) h k q

pub read_back : ReadBack
read_back = record { meaning = back_meaning; text = back_text; jaxn = back_jaxn; json = back_json }

-- ---- filed_before: the text in the old form of a meaning within the limits is accepted, with that meaning

pub filed_before : FiledBefore
filed_before = record {
  means = λ {m} g l. filed_derived m g l;
  held = λ {m} g l h k p. (accepted p).then m (record { means = filed_derived m g l; tape_room = h; store_room = k });
  same = λ {m} g l h p q. back_text (filed_derived m g l) h p q;
}
