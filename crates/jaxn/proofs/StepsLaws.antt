-- A text read into a tape and a store, and these written: the line that is printed. Assumes nothing.
use mathlib.Core.Path.{◌≡◌, refl, sym, ap, ◌∙◌, subst}
use mathlib.Core.List.{List}
use Prim.Native.Nat.{ℕ, ◌*◌, ◌≤◌, ◌<◌}
use native.Mathlib.Omega.{arith}
use lib.ListN.{length, take}
use lib.Seq.{take_at}
use Rattle.rules.specs.Paper.{Said, refused, number_said, place_said}
use Rattle.rules.proofs.Outcomes.{done_apart}
use Rattle.meaning.specs.declared.Refusal.{Refusal}
use Rattle.meaning.specs.Bytes.{laid}
use Rattle.meaning.specs.Meaning.{Meaning}
use Rattle.meaning.specs.Limits.{text_limit}
use Rattle.meaning.specs.Paper.{number_of, place_of, refusal_said}
use Rattle.meaning.specs.Canonical.{canonical}
use Rattle.meaning.specs.Tape.{tape_of, store_of, bytes, WellFormed}
use Rattle.meaning.proofs.Text.{canonical_short}
use Rattle.meaning.proofs.Whole.{tape_length}
use Rattle.grammar.specs.Values.{Text}
use Rattle.grammar.proofs.Good.{text_good}
use Rattle.grammar.proofs.Sizes.{text_fits}
use Rattle.reader.specs.Answers.{Answer, counts, Reads, tape_bytes, filled, tape_short, store_short}
use Rattle.reader.proofs.Claims.{Held, read_accepts}
use Rattle.std.specs.declared.result.Result.{Result}
use Rattle.std.specs.declared.result.Result.TheVariants.{Ok, Err}
use Rattle.writer.specs.Paper.{write_said}
use Rattle.writer.specs.Written.{Writes, WritesJaxn, too_long, too_short, written}
use Rattle.writer.proofs.Outcomes.{written_jaxn, wrote_length}
use Rattle.lanternrung.proofs.Claims.Writing.{text_length}
use Rattle.jaxn.specs.Line.{room, refused_line, Line, output_short, printed}
use Rattle.jaxn.specs.Between.Steps.{Rewrites, refusing, printing}

-- ---- what cannot be

-- a text of at most 65,536 bytes needs no longer store
store_enough : {t : List ℕ} {m : Meaning} → Text t m → length t ≤ room → bytes m ≤ room
store_enough x h = omega (arith, (text_fits x.loose).small)

-- the text of what fits the tape and the store is no longer than a text may be
never_too_long : {t : List ℕ} {m : Meaning} → Text t m → length t ≤ room → tape_bytes m ≤ room → length (canonical m) ≤ text_limit
never_too_long {m = m} x h f = omega (arith, canonical_short m (text_good x).parts, store_enough x h)

-- ---- refused

-- a refusal's line, by what is said of it
told : {X : Type 0} {t : List ℕ} (why : Refusal) {n p : ℕ} → ◌≡◌ {A = Said X} (refusal_said why) (refused n p) → Line t (refused_line n p)
    → Line t (refused_line (number_of why) (place_of why))
told {t = t} why {n} {p} e l =
    subst (λ (k : ℕ). Line t (refused_line k (place_of why))) (sym (ap number_said e)) (subst (λ (k : ℕ). Line t (refused_line n k)) (sym (ap place_said e)) l)

-- what `read` refuses is refused
refused_line_lem : {t tape store tape' store' : List ℕ} {why : Refusal} → length t ≤ room → length tape ≡ room → length store ≡ room
    → Reads t tape store (Err why) tape' store' → Line t (refused_line (number_of why) (place_of why))
refused_line_lem h r s (filled x f g e) = absurd (done_apart (sym e))
refused_line_lem {why = why} h r s (tape_short x f e) = told why e (Line.tape_short h x (omega (arith, r)))
refused_line_lem h r s (store_short x f g e) = absurd (omega (arith, s, store_enough x h))
refused_line_lem {why = why} h r s (Reads.no_text x e) = told why e (Line.no_text h x)

pub not_read : {t tape store tape' store' out : List ℕ} {a : Answer} {why : Refusal} → Reads t tape store a tape' store' → a ≡ Err why
    → length t ≤ room → length tape ≡ room → length store ≡ room → Rewrites t out (Err why) out
not_read {t} {tape} {store} {tape'} {store'} q e h r s = refusing (refused_line_lem h r s (subst (λ (b : Answer). Reads t tape store b tape' store') e q))

-- ---- written

module _ {t : List ℕ} {m : Meaning} {out : List ℕ} (h : length t ≤ room) (r : length out ≡ room) (x : Text t m) (f : tape_bytes m ≤ room) where
  short_line : (w : Result ℕ Refusal) → room < length (canonical m) → write_said w ≡ refused 12 (length (canonical m)) → Rewrites t out w out
  short_line (Ok n) k s = absurd (done_apart s)
  short_line (Err why) k s = refusing (told why s (output_short h x f k))

  whole_line : (w : Result ℕ Refusal) → length (canonical m) ≤ room → write_said w ≡ Said.done (length (canonical m))
      → Rewrites t out w (laid (canonical m) out)
  whole_line (Err why) k s = absurd (done_apart (sym s))
  whole_line (Ok n) k s =
      let line : Rewrites t out (Ok (length (canonical m))) (laid (canonical m) out) = printing (canonical m) (printed h x f k) (omega (arith, r)) in
      subst (λ (i : ℕ). Rewrites t out (Ok i) (laid (canonical m) out)) (sym (wrote_length s refl)) line

  written_line : {w : Result ℕ Refusal} {out' : List ℕ} → Writes (canonical m) out w out' → Rewrites t out w out'
  written_line (too_long k s) = absurd (omega (arith, never_too_long x h f))
  written_line {w} (too_short k i s) = short_line w (omega (arith, r)) s
  written_line {w} (written k i s) = whole_line w (omega (arith, r)) s

module _ {t tape store : List ℕ} {a : Answer} {r s : ℕ} {tape' store' : List ℕ} (h : Reads t tape store a tape' store') (e : a ≡ counts r s) where
  held : Held t tape store r s tape' store'
  held = read_accepts t tape store r s tape' store' (subst (λ (b : Answer). Reads t tape store b tape' store') e h)

  -- what was filled lies within what was lent
  pub tape_within : r * 16 ≤ length tape
  tape_within = omega (arith, held.tape_room, held.counted)

  pub store_within : s ≤ length store
  store_within = omega (arith, held.store_room, held.held)

  -- and is the tape and the store of the text's meaning
  tape_size : length (tape_of held.meaning) ≡ r * 16
  tape_size = tape_length held.meaning ∙ ap (λ (k : ℕ). k * 16) (sym held.counted)

  tape_is : take (r * 16) tape' ≡ tape_of held.meaning
  tape_is = ap (take (r * 16)) held.taped ∙ take_at _ _ _ tape_size

  store_is : take s store' ≡ store_of held.meaning
  store_is = ap (take s) held.stored ∙ take_at _ _ _ (sym held.held)

  -- parts of just these lengths
  pub tape_part : r * 16 ≡ length (take (r * 16) tape')
  tape_part = sym (ap length tape_is ∙ tape_size)

  pub store_part : s ≡ length (take s store')
  store_part = sym (ap length store_is ∙ sym held.held)

  well : WellFormed (take (r * 16) tape') (take s store')
  well =
      let m = text_fits held.text_means.loose in
      let n = text_length held.text_means.loose in
      record { meaning = held.meaning; good = text_good held.text_means; few = omega arith; short = omega arith; taped = tape_is; stored = store_is }

  -- so that what is written is its canonical text
  pub rewritten : {out out' : List ℕ} {w : Result ℕ Refusal} → WritesJaxn (take (r * 16) tape') (take s store') out w out'
      → length t ≤ room → length tape ≡ room → length out ≡ room → Rewrites t out w out'
  unfolding well
  rewritten q i j k = written_line i k held.text_means (omega (arith, held.tape_room, j)) (written_jaxn well q)
