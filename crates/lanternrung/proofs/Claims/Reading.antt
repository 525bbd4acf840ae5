-- accepted, measured, refusals, repeated_key, one_refusal, bounded, unambiguous: what `measure` and `read` answer, by the grammar. Assumes nothing.
use mathlib.Core.Path.{◌≡◌, refl, sym, ap, subst}
use mathlib.Core.Logic.{◌↔◌, ◌⊎◌, inl, inr}
use mathlib.Core.Bool.{Bool, true, false}
use mathlib.Core.List.{List}
use Prim.Native.Nat.{ℕ, ◌≤◌, ◌<◌}
use native.Mathlib.Omega.{arith}
use lib.Dec.{lit<}
use Rattle.std.specs.Prelude.{Err}
use Rattle.rules.specs.Paper.{number_said}
use Rattle.rules.proofs.Outcomes.{done_apart}
use Rattle.meaning.specs.declared.Refusal.{Refusal}
use Rattle.meaning.specs.declared.Refusal.TheVariants.{RepeatedKey}
use Rattle.meaning.specs.Paper.{number_of}
use Rattle.meaning.proofs.Paper.{same_refusal}
use Rattle.meaning.specs.Meaning.{Meaning}
use Rattle.meaning.specs.Once.{once}
use Rattle.meaning.specs.Tape.{records, bytes}
use Rattle.meaning.proofs.Events.{once_none, twice_some}
use Rattle.meaning.proofs.Whole.{tape_length}
use Rattle.grammar.specs.Values.{Loose, Text}
use Rattle.grammar.specs.Refused.{ItemFault, Refused, LooseRefused, Repeats, TextRefused}
use Rattle.grammar.proofs.Sizes.{text_fits}
use Rattle.machine.proofs.Accepted as machine
use Rattle.machine.proofs.Repeated.{KeyedText, text_keys_lem}
use Rattle.reader.specs.Answers.{Answer, counts, Measures, Reads}
use Rattle.reader.proofs.Claims as reader
use Rattle.lanternrung.specs.Claims.{OneReading, Counted, Takes, Holds, Accepted, SizesOf, Measured, IsRead, OfText, Refusals, RepeatsFirst, RepeatedKeys}
use Rattle.lanternrung.specs.Claims.{Within, Bounded}

-- ---- unambiguous: the grammar gives no text two meanings

pub unambiguous : {text : List ℕ} {m n : Meaning} → Text text m → Text text n → m ≡ n
unambiguous = machine.unambiguous

-- ---- accepted

pub accepted : {text tape store : List ℕ} {a : Answer} {tape' store' : List ℕ} → Reads text tape store a tape' store' → Accepted text tape store a tape' store'
accepted {text} {tape} {store} {a} {tape'} {store'} p = record {
  exactly = (only, λ w. (records w.0, bytes w.0, (held w.0 w.1).answer));
  then =
      held;
}
  where
    by_counts : {r s : ℕ} → a ≡ counts r s → reader.Held text tape store r s tape' store'
    by_counts {r} {s} e = reader.read_accepts text tape store r s tape' store' (subst (λ (x : Answer). Reads text tape store x tape' store') e p)

    only : Counted a → (m : Meaning) × Takes text tape store m
    only d = let h = by_counts d.2 in (h.meaning, record { means = h.text_means; tape_room = h.tape_room; store_room = h.store_room })

    held : (m : Meaning) → Takes text tape store m → Holds m tape store a tape' store'
    held m w =
        let e = reader.accepts_read text tape store tape' store' a m w.means w.tape_room w.store_room p in
        let h = by_counts e in
        let q = unambiguous h.text_means w.means in
        record { answer = e; taped = rw q at h.taped; stored = rw q at h.stored }

-- ---- measured

pub measured : {text : List ℕ} {a : Answer} → Measures text a → Measured text a
measured {text} {a} p = record { exactly = (only, λ w. (records w.0, bytes w.0, (sized w.0 w.1).answer)); then = sized }
  where
    only : Counted a → (m : Meaning) × Text text m
    only d = let h = reader.measure_accepts text d.0 d.1 (subst (Measures text) d.2 p) in (h.meaning, h.text_means)

    sized : (m : Meaning) → Text text m → SizesOf m a
    sized m x = record {
      answer = reader.one_outcome_measure text a (counts (records m) (bytes m)) p (reader.accepts_measure x);
      tape_size =
          tape_length m;
      store_size = refl;
    }

pub is_read : IsRead
is_read = record { read = accepted; measure = measured }

-- ---- refusals: which of 1 to 7, or 15, is given, and where

measure_why : {text : List ℕ} {why : Refusal} → Measures text (Err why) → TextRefused text why
measure_why (Measures.sizes x e) = absurd (done_apart (sym e))
measure_why {text} {why} (Measures.no_text {why = w} x e) = subst (TextRefused text) (same_refusal w why (sym e)) x

not_between : {n k : ℕ} → (n ≤ 7) ⊎ (n ≡ 15) → n ≡ k → 7 < k → k < 15 → ⊥
not_between (inl h) e l m = omega arith
not_between (inr h) e l m = omega arith

read_why : {text tape store : List ℕ} {tape' store' : List ℕ} {why : Refusal} → Reads text tape store (Err why) tape' store' → OfText why
    → TextRefused text why
read_why (Reads.filled x h k e) n = absurd (done_apart (sym e))
read_why (Reads.tape_short x h e) n = absurd (not_between n (ap number_said e) (lit< tt) (lit< tt))
read_why (Reads.store_short x h k e) n = absurd (not_between n (ap number_said e) (lit< tt) (lit< tt))
read_why {text} {why = why} (Reads.no_text {why = w} x e) n = subst (TextRefused text) (same_refusal w why (sym e)) x

pub refusals : Refusals
refusals =
    record {
      measure = λ {text} p. (λ e. measure_why (subst (Measures text) e p), λ x. reader.measure_refuses x p);
      read = λ {text} {tape} {store} {a} {tape'} {store'} p n. (
        λ e. read_why (subst (λ (x : Answer). Reads text tape store x tape' store') e p) n,
        λ x.
            reader.read_refuses x p,
      );
    }

-- two refusals that the grammar gives a text are one
pub one_refusal : {text : List ℕ} {v w : Refusal} → TextRefused text v → TextRefused text w → v ≡ w
one_refusal = machine.one_text_refusal

pub one_reading : OneReading
one_reading = record { meaning = unambiguous; refusal = one_refusal }

-- ---- repeated_key: where 15 is given

-- but for its keys a text is refused with 1 to 7
one_to_seven : {text : List ℕ} {why : Refusal} → LooseRefused text why → number_of why ≤ 7
one_to_seven (LooseRefused.too_long h) = omega arith
one_to_seven (LooseRefused.not_utf8 h f) = omega arith
one_to_seven (LooseRefused.refused h o (Refused.grammar n x)) = omega arith
one_to_seven (LooseRefused.refused h o (Refused.fault (ItemFault.escape r l a b n))) = omega arith
one_to_seven (LooseRefused.refused h o (Refused.fault (ItemFault.time l x n r))) = omega arith
one_to_seven (LooseRefused.refused h o (Refused.fault (ItemFault.number l x n r))) = omega arith
one_to_seven (LooseRefused.refused h o (Refused.fault (ItemFault.depth r l b))) = omega arith

pub repeats_first : {text : List ℕ} {p : ℕ} → TextRefused text (RepeatedKey p) → RepeatsFirst text p
repeats_first (TextRefused.loose x) = absurd (omega (arith, one_to_seven x))
repeats_first (TextRefused.repeated {m = m} x y z) = record { meaning = m; means = x; repeats = y; first = z }

first_refused : {text : List ℕ} {p : ℕ} → RepeatsFirst text p → TextRefused text (RepeatedKey p)
first_refused w = TextRefused.repeated w.means w.repeats w.first

none_repeats : {text : List ℕ} {m : Meaning} → Loose true text m → ((p : ℕ) → Repeats text p → ⊥) ↔ Text text m
none_repeats {text} {m} x = (λ n. only n (once m) refl, λ y p z. keys.none_repeats (once_none keys.keys m keys.same y.single) p z)
  where
    keys : KeyedText text m
    keys = text_keys_lem x

    only : ((p : ℕ) → Repeats text p → ⊥) → (b : Bool) → once m ≡ b → Text text m
    only n true e = record { loose = x; single = e }
    only n false e = let w = twice_some keys.keys m keys.same e in absurd (n w.0 (keys.first w.0 w.1).0)

pub repeated_key : RepeatedKeys
repeated_key =
    record {
      measure = λ p. (λ e. repeats_first ((refusals.measure p).0 e), λ w. (refusals.measure p).1 (first_refused w));
      read = λ p. (λ e. repeats_first ((refusals.read p (inr refl)).0 e), λ w. (refusals.read p (inr refl)).1 (first_refused w));
      none_repeats = none_repeats;
    }

-- ---- bounded: for every accepted text, records and store bytes are each at most its length

pub bounded : Bounded
bounded = record { grammar = by_grammar; measure = by_measure; read = by_read }
  where
    by_grammar : {text : List ℕ} {m : Meaning} → Text text m → Within text (records m) (bytes m)
    by_grammar x = let f = text_fits x.loose in (f.few, f.small)

    by_measure : (text : List ℕ) {r s : ℕ} → Measures text (counts r s) → Within text r s
    by_measure text {r} {s} p = reader.bounded (reader.measure_accepts text r s p)

    by_read : {text tape store : List ℕ} {r s : ℕ} {tape' store' : List ℕ} → Reads text tape store (counts r s) tape' store' → Within text r s
    by_read {text} {tape} {store} {r} {s} {tape'} {store'} p =
        let h = reader.read_accepts text tape store r s tape' store' p in
        let f = text_fits h.text_means.loose in
        (omega (arith, f.few, h.counted), omega (arith, f.small, h.held))
