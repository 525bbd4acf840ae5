-- impostors: wrong programs, each a function from what it is given to what it answers and leaves, and each shown to break its promise.
-- Assumes nothing.
use mathlib.Core.Path.{◌≡◌, refl, sym, ap, ◌∙◌, subst}
use mathlib.Core.Bool.{true, false}
use mathlib.Core.List.{List, [], ◌∷◌, ◌++◌, append-nil}
use mathlib.Core.Option.{none as nowhere}
use Prim.Native.Nat.{ℕ, ◌*◌, ◌≤◌, ◌<◌, ◌^◌}
use native.Mathlib.Omega.{arith}
use lib.Count.{count_leading_zeros}
use lib.Dec.{lit≤, lit<}
use lib.IntN.{pos}
use lib.ListN.{length, get_or, drop}
use Rattle.std.specs.Prelude.{Result, Ok, Err}
use Rattle.rules.specs.declared.IllFormed.{IllFormed}
use Rattle.rules.specs.declared.NoDate.{NoDate}
use Rattle.rules.specs.Rfc3629.{Octets, Judged}
use Rattle.rules.specs.Rfc3339.{Date, Dated}
use Rattle.rules.specs.Between.Decided.{is_wide, length_at, fault_from, judged}
use Rattle.rules.proofs.Decided.{judged_is}
use Rattle.rules.specs.Between.Decided.{is_leap, is_date}
use Rattle.rules.proofs.Months.{date_is, is_date_lem}
use Rattle.rules.proofs.Outcomes.{one_outcome_utf8, date_done_lem, date_none}
use Rattle.meaning.specs.declared.Number.TheVariants.{Finite}
use Rattle.meaning.specs.declared.Record.{Record}
use Rattle.meaning.specs.declared.Refusal.{Refusal}
use Rattle.meaning.specs.declared.Refusal.TheVariants.{RepeatedKey}
use Rattle.meaning.specs.Letters.{letters}
use Rattle.meaning.specs.Limits.{text_limit, depth_limit}
use Rattle.meaning.specs.Meaning.{Meaning, Members, null, bool, number, string, array, object, none, more, bare, member}
use Rattle.meaning.specs.Good.{GoodParts, most, depth, Good}
use Rattle.meaning.specs.Once.{same, held, once, once_elements, once_members}
use Rattle.meaning.specs.Bytes.{le, unnamed}
use Rattle.meaning.specs.Tape.{records, members_records, elements_count, members_count, store_of, members_store, bytes, records_of, record_bytes, records_bytes}
use Rattle.meaning.specs.Tape.{tape_of}
use Rattle.meaning.specs.Tape.{WellFormed}
use Rattle.meaning.specs.Canonical.{decimal_in, decimal, escaped, escapes, quoted, power_text, text_with, canonical}
use Rattle.meaning.specs.Filed.{filed_number, filed}
use Rattle.meaning.specs.Json.{first_without, no_json}
use Rattle.meaning.specs.Look.{whole_records}
use Rattle.meaning.proofs.Bytes.{le_length, le_bytes}
use Rattle.meaning.proofs.Fitting.{octets_bytes, store_bytes}
use Rattle.meaning.proofs.Quotes.{ascii_octets}
use Rattle.meaning.proofs.Whole.{tape_length, tape_bytes_lem, injective}
use Rattle.grammar.specs.Values.{Loose, Text}
use Rattle.grammar.specs.Refused.{TextRefused}
use Rattle.grammar.proofs.Utf8.{text_octets}
use Rattle.grammar.proofs.Good.{text_good}
use Rattle.grammar.proofs.Sizes.{Fits, text_fits}
use Rattle.grammar.proofs.Canonical.{text_derived}
use Rattle.arriving.specs.Between.Arriving.{joined}
use Rattle.meaning.specs.Between.Words.{get}
use Rattle.tape.specs.Between.Shapes.{record_of, not_finite}
use Rattle.tape.proofs.JudgingMachineLaws.{nay, slot, put, enter, give, settle, size_of, start_of, does, act_of, push, finish, run}
use Rattle.tape.specs.Between.Standing.{read_at, records_from}
use Rattle.tape.proofs.JudgingWholeLaws.{verdict}
use Rattle.tape.proofs.JudgingOnceLaws.{nay_ill}
use Rattle.tape.proofs.Outcomes.{look_well_formed}
use Rattle.reader.specs.Answers.{Answer, counts, tape_bytes, Loosely}
use Rattle.reader.proofs.Claims.{one_outcome_loosely, measure_refuses, read_refuses}
use Rattle.lanternrung.specs.Trials.Samples.{Outcome, Says, IsTaken, Case, All, ◌&◌}
use Rattle.lanternrung.proofs.Claims.PList.{p_list, slips_hold, keys_twice}
use Rattle.lanternrung.specs.Claims.{Counted, Takes, Holds, RepeatsFirst, Room, Wrote, Prints}
use Rattle.lanternrung.specs.Trials.Impostors.{Lent, Measurer, KeepsMeasure, Reader, KeepsRead, Writer, KeepsJaxn, KeepsJson}
use Rattle.lanternrung.specs.Trials.Impostors.{Looker, KeepsLook, KeepsUtf8, Calendar, KeepsDate, WritesOnly, older_tape}
use Rattle.lanternrung.specs.Trials.Impostors.{twice, PrintsTwice, Files, Impostors}
use Rattle.lanternrung.specs.Trials.Impostors.{Checker, answers, KeepsCheck}
use Rattle.lanternrung.proofs.Claims.Reading.{accepted, measured, repeats_first}
use Rattle.lanternrung.proofs.Claims.Writing.{text_length, written, filed_before}

-- ---- what they are tried on

zeros : (n : ℕ) → n < 2 ^ 64 → Lent (unnamed n)
zeros n h = record { each = le_bytes n 0; few = omega (arith, le_length n 0) }

text_lent : {t : List ℕ} {m : Meaning} → Loose true t m → Lent t
text_lent x = record { each = octets_bytes (text_octets x); few = omega (arith, text_length x) }

-- a small meaning
record Small (m : Meaning) : Type 0 where
  good : Good m
  short : length (canonical m) ≤ text_limit

module _ {m : Meaning} (s : Small m) where
  derived : Text (canonical m) m
  derived = text_derived m s.good s.short

  loosely : Loose true (canonical m) m
  loosely = derived.loose

  abbrev tape₀ : List ℕ
  tape₀ = unnamed (tape_bytes m)

  abbrev store₀ : List ℕ
  store₀ = unnamed (bytes m)

  tape_lent : Lent (tape_of m)
  tape_lent = record { each = tape_bytes_lem m; few = omega (arith, tape_length m, (text_fits loosely).few, text_length loosely) }

  store_lent : Lent (store_of m)
  store_lent = record { each = store_bytes m s.good.parts; few = omega (arith, (text_fits loosely).small, text_length loosely) }

  abbrev well_formed : WellFormed (tape_of m) (store_of m)
  well_formed =
      let f = text_fits loosely in
      let l = text_length loosely in
      record { meaning = m; good = s.good; few = omega (arith, f.few); short = omega (arith, f.small); taped = refl; stored = refl }

  takes : Takes (canonical m) tape₀ store₀ m
  takes = record { means = derived; tape_room = omega (arith, le_length (tape_bytes m) 0); store_room = omega (arith, le_length (bytes m) 0) }

  reads : (f : Reader) → KeepsRead f → Holds m tape₀ store₀ (f (canonical m) tape₀ store₀).0 (f (canonical m) tape₀ store₀).1
      (f (canonical m) tape₀ store₀).2
  reads f k =
      let x = text_fits loosely in
      let l = text_length loosely in
      (accepted (k (canonical m) tape₀ store₀ (text_lent loosely) (zeros (tape_bytes m) (omega (arith, x.few))) (zeros (bytes m) (omega (arith, x.small))))
      ).then m takes

  room : (n : ℕ) → length (canonical m) ≤ n → Room (canonical m) (unnamed n)
  room n h = record { short = s.short; fits = omega (arith, le_length n 0) }

  prints_jaxn : (f : Writer) → KeepsJaxn f → (n : ℕ) → length (canonical m) ≤ n → n < 2 ^ 64
      → Prints (canonical m) (unnamed n) (f (tape_of m) (store_of m) (unnamed n)).0 (f (tape_of m) (store_of m) (unnamed n)).1
  prints_jaxn f k n h l = (written.jaxn (k (tape_of m) (store_of m) (unnamed n) tape_lent store_lent (zeros n l))).then well_formed (room n h)

  prints_json : (f : Writer) → KeepsJson f → no_json m ≡ nowhere → (n : ℕ) → length (canonical m) ≤ n → n < 2 ^ 64
      → Prints (canonical m) (unnamed n) (f (tape_of m) (store_of m) (unnamed n)).0 (f (tape_of m) (store_of m) (unnamed n)).1
  prints_json f k e n h l = (written.json (k (tape_of m) (store_of m) (unnamed n) tape_lent store_lent (zeros n l))).then well_formed e (room n h)

small_null : Small null
unfolding text_with depth depth_limit once
small_null = record { good = record { parts = tt; shallow = lit≤ tt; single = refl }; short = lit≤ tt }

small_true : Small (bool true)
unfolding text_with depth depth_limit once
small_true = record { good = record { parts = tt; shallow = lit≤ tt; single = refl }; short = lit≤ tt }

-- ---- how each fails

refuses_all : (f : Reader) → ((text tape store : List ℕ) → (why : Refusal) × ((f text tape store).0 ≡ Err why)) → KeepsRead f → ⊥
refuses_all f r k =
    let h = (reads small_null f k).answer in
    let e = (r (canonical null) (tape₀ small_null) (store₀ small_null)).1 in
    let z : ◌≡◌ {A = ℕ} 0 1 = cc in
    omega arith

null_for_all : (f : Reader)
    → ((text tape store : List ℕ) (m : Meaning) → Takes text tape store m → Holds null tape store (f text tape store).0 (f text tape store).1
    (f text tape store).2) → KeepsRead f → ⊥
unfolding tape_of records_of records_bytes record_bytes
null_for_all f r k =
    let h = (reads small_true f k).taped in
    let g = (r (canonical (bool true)) (tape₀ small_true) (store₀ small_true) (bool true) (takes small_true)).taped in
    let z : ◌≡◌ {A = ℕ} 98 110 = ap (λ (t : List ℕ). get_or t 0 0) (sym h ∙ g) in
    omega arith

leaves_tape : (f : Reader) → ((text tape store : List ℕ) → (f text tape store).1 ≡ tape) → KeepsRead f → ⊥
unfolding tape_of records_of records_bytes record_bytes records le
leaves_tape f r k =
    let h = (reads small_null f k).taped in
    let z : ◌≡◌ {A = ℕ} 0 110 = ap (λ (t : List ℕ). get_or t 0 0) (sym (r _ _ _) ∙ h) in
    omega arith

touches_nothing : (f : Reader) → ((text tape store : List ℕ) → ((f text tape store).1 ≡ tape) × ((f text tape store).2 ≡ store)) → KeepsRead f → ⊥
touches_nothing f r = leaves_tape f (λ text tape store. (r text tape store).0)

small_a : Small (string (letters "a"))
unfolding text_with quoted escapes escaped depth depth_limit once
small_a = record { good = record { parts = ascii_octets (letters "a") (omega arith); shallow = lit≤ tt; single = refl }; short = lit≤ tt }

leaves_store : (f : Reader) → ((text tape store : List ℕ) → (f text tape store).2 ≡ store) → KeepsRead f → ⊥
unfolding store_of le
leaves_store f r k =
    let h = (reads small_a f k).stored in
    let z : ◌≡◌ {A = ℕ} 0 97 = ap (λ (t : List ℕ). get_or t 0 0) (sym (r _ _ _) ∙ h) in
    omega arith

small_array : Small (array (more none null))
unfolding text_with depth most depth_limit once once_elements
small_array = record { good = record { parts = (tt, tt); shallow = lit≤ tt; single = refl }; short = lit≤ tt }

leaves_counts : (f : Reader) → ((text tape store : List ℕ) → get_or (f text tape store).1 4 0 ≡ 0) → KeepsRead f → ⊥
unfolding tape_of records_of records_bytes record_bytes elements_count le
leaves_counts f r k =
    let h = (reads small_array f k).taped in
    let z : ◌≡◌ {A = ℕ} 0 1 = sym (r _ _ _) ∙ ap (λ (t : List ℕ). get_or t 4 0) h in
    omega arith

small_object : Small (object (member bare [] null))
unfolding text_with quoted escapes depth most depth_limit once once_members held
small_object = record { good = record { parts = (tt, ascii_octets [] tt, tt); shallow = lit≤ tt; single = refl }; short = lit≤ tt }

counts_records : (f : Reader)
    → ((text tape store : List ℕ) (ms : Members) → Takes text tape store (object ms) → get_or (f text tape store).1 4 0 ≡ members_records ms)
    → KeepsRead f → ⊥
unfolding tape_of records_of records_bytes record_bytes members_count members_records records le
counts_records f r k =
    let h = (reads small_object f k).taped in
    let z : ◌≡◌ {A = ℕ} 2 1 = sym (r _ _ _ (member bare [] null) (takes small_object)) ∙ ap (λ (t : List ℕ). get_or t 4 0) h in
    omega arith

older_long : length older_tape ≡ 2 * 16
unfolding records_bytes record_bytes le
older_long = refl

older_nay : verdict 2 older_tape [] ≡ nay
unfolding records_from read_at record_of not_finite get records_bytes record_bytes le run push settle give slot put enter does start_of size_of act_of finish
    elements_count depth_limit
older_nay = refl

older_lent : Lent older_tape
unfolding records_bytes record_bytes le
older_lent = record { each = omega arith; few = lit< tt }

-- no tape without counts is well formed, where one has an element: the machine that reads the records says no
older_ill : WellFormed older_tape [] → ⊥
older_ill = nay_ill older_tape [] 2 older_long older_nay

older_jaxn : (f : Writer) → ((out : List ℕ) → Wrote (f older_tape [] out).0) → KeepsJaxn f → ⊥
unfolding le
older_jaxn f r k = older_ill ((written.jaxn (k older_tape [] [] older_lent (zeros 0 (lit< tt)) (zeros 0 (lit< tt)))).exactly.0 (r [])).0

older_json : (f : Writer) → ((out : List ℕ) → Wrote (f older_tape [] out).0) → KeepsJson f → ⊥
unfolding le
older_json f r k = older_ill ((written.json (k older_tape [] [] older_lent (zeros 0 (lit< tt)) (zeros 0 (lit< tt)))).exactly.0 (r [])).0

-- ---- two equal keys on a tape

twice_parts : GoodParts twice
twice_parts = let a = ascii_octets (letters "a") (omega arith) in ((tt, a, tt), a, tt)

-- the tape and the store have this meaning alone, and it is not good
twice_ill : WellFormed (tape_of twice) (store_of twice) → ⊥
unfolding once once_members held same records members_records store_of members_store
twice_ill w =
    let e : w.meaning ≡ twice = injective w.meaning twice w.good.parts twice_parts w.few (lit≤ tt) w.short (sym w.taped) (sym w.stored) in
    let f : false ≡ true = subst (λ (m : Meaning). once m ≡ true) e w.good.single in
    let z : ◌≡◌ {A = ℕ} 0 1 = cc in
    omega arith

twice_tape : Lent (tape_of twice)
unfolding records members_records
twice_tape = let l : length (tape_of twice) ≡ 5 * 16 = tape_length twice in record { each = tape_bytes_lem twice; few = omega arith }

twice_store : Lent (store_of twice)
unfolding store_of members_store
twice_store = record { each = omega arith; few = lit< tt }

twice_room : length (canonical twice) ≤ length (unnamed 19)
unfolding text_with quoted escapes escaped
twice_room = omega (arith, le_length 19 0)

repeated_jaxn : (f : Writer) → PrintsTwice f → KeepsJaxn f → ⊥
repeated_jaxn f r k =
    let p = written.jaxn (k (tape_of twice) (store_of twice) (unnamed 19) twice_tape twice_store (zeros 19 (lit< tt))) in
    twice_ill (p.exactly.0 (_, (r (unnamed 19) twice_room).answer)).0

repeated_json : (f : Writer) → PrintsTwice f → KeepsJson f → ⊥
repeated_json f r k =
    let p = written.json (k (tape_of twice) (store_of twice) (unnamed 19) twice_tape twice_store (zeros 19 (lit< tt))) in
    twice_ill (p.exactly.0 (_, (r (unnamed 19) twice_room).answer)).0

-- two outputs of four bytes, one `null` and one `true`
two_texts : (t x y : List ℕ) → x ≡ t ++ drop (length t) (unnamed 4) → y ≡ t ++ drop (length t) (unnamed 4) → x ≡ canonical null
    ++ drop (length (canonical null)) (unnamed 4)
    → y ≡ canonical (bool true) ++ drop (length (canonical (bool true))) (unnamed 4) → ⊥
unfolding text_with
two_texts t x y a b c d =
    let z : ◌≡◌ {A = ℕ} 110 116 = ap (λ (u : List ℕ). get_or u 0 0) (sym c ∙ a ∙ sym b ∙ d) in
    omega arith

one_text_jaxn : (f : Writer) (t : List ℕ) → WritesOnly t f → KeepsJaxn f → ⊥
unfolding text_with
one_text_jaxn f t r k =
    let p = prints_jaxn small_null f k 4 (lit≤ tt) (lit< tt) in
    let q = prints_jaxn small_true f k 4 (lit≤ tt) (lit< tt) in
    two_texts t _ _ (r _ _ _ _ p.answer) (r _ _ _ _ q.answer) p.holds q.holds

one_text_json : (f : Writer) (t : List ℕ) → WritesOnly t f → KeepsJson f → ⊥
unfolding text_with no_json first_without records_of
one_text_json f t r k =
    let p = prints_json small_null f k refl 4 (lit≤ tt) (lit< tt) in
    let q = prints_json small_true f k refl 4 (lit≤ tt) (lit< tt) in
    two_texts t _ _ (r _ _ _ _ p.answer) (r _ _ _ _ q.answer) p.holds q.holds

-- ---- copies

first : {text : List ℕ} {outcome : Outcome} {rest : List (List ℕ × Outcome)} → All ((text, outcome) ∷ rest) → Case text outcome
first (h & r) = h

later : {text : List ℕ} {outcome : Outcome} {rest : List (List ℕ × Outcome)} → All ((text, outcome) ∷ rest) → All rest
later (h & r) = r

-- `1e5` is written `100000`
hundred_thousand : IsTaken (letters "1e5") (number (Finite false 1 (pos 5))) (letters "100000")
hundred_thousand = first (later (later (later slips_hold)))

abbrev hundred : Meaning
hundred = number (Finite false 1 (pos 5))

small_hundred : Small hundred
small_hundred = record { good = text_good hundred_thousand.means; short = omega (arith, ap length hundred_thousand.prints) }

hundred_length : length (canonical hundred) ≡ 6
hundred_length = ap length hundred_thousand.prints

filed_length : length (filed hundred) ≡ 3
unfolding text_with filed_number decimal decimal_in power_text
filed_length = refl

hundred_json : no_json hundred ≡ nowhere
unfolding no_json first_without records_of
hundred_json = refl

-- `1e5` is no longer written
files : (f : Writer) → Files f
    → Prints (canonical hundred) (unnamed 6) (f (tape_of hundred) (store_of hundred) (unnamed 6)).0 (f (tape_of hundred) (store_of hundred) (unnamed 6)).1 → ⊥
files f r p =
    let a = p.answer in
    let b = (r hundred (unnamed 6) (omega (arith, filed_length, le_length 6 0))).answer in
    let z : length (canonical hundred) ≡ length (filed hundred) = cc in
    omega (arith, hundred_length, filed_length)

files_jaxn : (f : Writer) → Files f → KeepsJaxn f → ⊥
files_jaxn f r k = files f r (prints_jaxn small_hundred f k 6 (omega (arith, hundred_length)) (lit< tt))

files_json : (f : Writer) → Files f → KeepsJson f → ⊥
files_json f r k = files f r (prints_json small_hundred f k hundred_json 6 (omega (arith, hundred_length)) (lit< tt))

-- and is still read
refuses_filed : (f : Reader)
    → ((m : Meaning) (tape store : List ℕ) → (filed m ≡ canonical m → ⊥) → (why : Refusal) × ((f (filed m) tape store).0 ≡ Err why))
    → KeepsRead f → ⊥
refuses_filed f r k =
    let m = hundred in
    let x = filed_before.means {m = m} small_hundred.good (omega (arith, filed_length)) in
    let y = text_fits x.loose in
    let l = text_length x.loose in
    let tape = unnamed (tape_bytes m) in
    let store = unnamed (bytes m) in
    let lent = k (filed m) tape store (text_lent x.loose) (zeros (tape_bytes m) (omega (arith, y.few))) (zeros (bytes m) (omega (arith, y.small))) in
    let p =
    (filed_before.held {m = m} small_hundred.good (omega (arith, filed_length)) (omega (arith, le_length (tape_bytes m) 0))
    (omega (arith, le_length (bytes m) 0)) lent).answer in
    let q = (r m tape store (λ e. omega (arith, filed_length, hundred_length, ap length e))).1 in
    let z : ◌≡◌ {A = ℕ} 0 1 = cc in
    omega arith

copies : (f : List ℕ → Writer)
    → ((text : List ℕ) (m : Meaning) (out : List ℕ) → Text text m → length text ≤ length out
    → Prints text out (f text (tape_of m) (store_of m) out).0 (f text (tape_of m) (store_of m) out).1)
    → ((text : List ℕ) → KeepsJaxn (f text)) → ⊥
copies f r k =
    let t = letters "1e5" in
    let x = hundred_thousand in
    let l = ap length x.prints in
    let p = (prints_jaxn small_hundred (f t) (k t) 6 (omega arith) (lit< tt)).answer in
    let q = (r t _ (unnamed 6) x.means (omega (arith, le_length 6 0))).answer in
    let z : length (canonical hundred) ≡ 3 = cc in
    omega arith

-- ---- measure

invents : (f : Measurer) {text : List ℕ} {m : Meaning} → Text text m → (f text ≡ counts (records m) (bytes m) → ⊥) → KeepsMeasure f → ⊥
invents f {text} {m} x n k = n ((measured (k text (text_lent x.loose))).then m x).answer

counted : {m : Meaning} → Small m → (f : Measurer) → KeepsMeasure f → f (canonical m) ≡ counts (records m) (bytes m)
counted {m} s f k = let x = derived s in ((measured (k (canonical m) (text_lent x.loose))).then m x).answer

-- how many records an answer counts, 0 of a refusal
record_count : Answer → ℕ
record_count (Ok n) = n.records
record_count (Err why) = 0

one_count : (f : Measurer) (r s : ℕ) → ((text : List ℕ) → Counted (f text) → f text ≡ counts r s) → KeepsMeasure f → ⊥
unfolding records record_count
one_count f r s g k =
    let p = counted small_null f k in
    let q = counted small_array f k in
    let a = g (canonical null) (_, _, p) in
    let b = g (canonical (array (more none null))) (_, _, q) in
    let z : records null ≡ records (array (more none null)) = ap record_count (sym p ∙ a ∙ sym b ∙ q) in
    omega arith

counts_all : (f : Measurer) → ((text : List ℕ) → Counted (f text)) → KeepsMeasure f → ⊥
counts_all f g k =
    let x = first p_list in
    let d = g [] in
    subst (Says 3 0) d.2 (x.measured (f []) (k [] (record { each = tt; few = lit< tt })))

-- ---- a key that is repeated: `{a:{b:1,b:2},a:3}`

abbrev text₀ : List ℕ
text₀ = letters "{a:{b:1,b:2},a:3}"

first₀ : RepeatsFirst text₀ 8
first₀ = repeats_first keys_twice.1

fits₀ : Fits text₀ first₀.meaning
fits₀ = text_fits first₀.means

lent₀ : Lent text₀
lent₀ = text_lent first₀.means

-- counts are no refusal
not_counted : {a : Answer} {why : Refusal} → a ≡ Err why → Counted a → ⊥
not_counted e d = let c = d.2 in let z : ◌≡◌ {A = ℕ} 0 1 = cc in omega arith

refuses_at : (f : Measurer) → KeepsMeasure f → f text₀ ≡ Err (RepeatedKey 8)
refuses_at f k = measure_refuses keys_twice.1 (k text₀ lent₀)

earlier_key : (f : Measurer)
    → ((text : List ℕ) (p : ℕ) → TextRefused text (RepeatedKey p) → (q : ℕ) × (q < p) × (f text ≡ Err (RepeatedKey q)))
    → KeepsMeasure f → ⊥
earlier_key f r k =
    let w = r text₀ 8 keys_twice.1 in
    let e = w.2 in
    let g = refuses_at f k in
    let z : w.0 ≡ 8 = cc in
    omega (arith, w.1)

measures_repeated : (f : Measurer) → ((text : List ℕ) (m : Meaning) → Loose true text m → Counted (f text)) → KeepsMeasure f → ⊥
measures_repeated f r k = not_counted (refuses_at f k) (r text₀ first₀.meaning first₀.means)

reads_repeated : (f : Reader)
    → ((text tape store : List ℕ) (m : Meaning) → Loose true text m → tape_bytes m ≤ length tape → bytes m ≤ length store → Counted (f text tape store).0)
    → KeepsRead f → ⊥
reads_repeated f r k =
    let m = first₀.meaning in
    let t = unnamed (tape_bytes m) in
    let s = unnamed (bytes m) in
    let d = r text₀ t s m first₀.means (omega (arith, le_length (tape_bytes m) 0)) (omega (arith, le_length (bytes m) 0)) in
    not_counted (read_refuses keys_twice.1 (k text₀ t s lent₀ (zeros (tape_bytes m) (omega (arith, fits₀.few)))
    (zeros (bytes m) (omega (arith, fits₀.small))))) d

checks_keys : (f : Checker)
    → ((ps : List (List ℕ)) (p : ℕ) → TextRefused (joined ps) (RepeatedKey p) → answers f ps ≡ Err (RepeatedKey p)) → KeepsCheck f → ⊥
checks_keys f r k =
    let m = first₀.meaning in
    let ps = text₀ ∷ [] in
    let e = one_outcome_loosely text₀ (answers f ps) (counts (records m) (bytes m)) (k ps lent₀) (Loosely.sizes first₀.means refl) in
    not_counted (r ps 8 keys_twice.1) (records m, bytes m, e)

-- ---- a text in parts

module _ (f : Checker) (k : KeepsCheck f) where
  counted_parts : {m : Meaning} → Small m → (ps : List (List ℕ)) → canonical m ≡ joined ps → answers f ps ≡ counts (records m) (bytes m)
  counted_parts {m} s ps e =
      let x : Loose true (joined ps) m = subst (λ (t : List ℕ). Loose true t m) e (loosely s) in
      one_outcome_loosely (joined ps) (answers f ps) (counts (records m) (bytes m)) (k ps (text_lent x)) (Loosely.sizes x refl)

  -- two texts of one and of two records are not told apart
  not_apart : (ps qs : List (List ℕ)) → canonical null ≡ joined ps → canonical (array (more none null)) ≡ joined qs → answers f ps ≡ answers f qs → ⊥
  unfolding records record_count
  not_apart ps qs d e same =
      let p = counted_parts small_null ps d in
      let q = counted_parts small_array qs e in
      let z : records null ≡ records (array (more none null)) = ap record_count (sym p ∙ same ∙ q) in
      omega arith

alone : (t : List ℕ) → t ≡ joined (t ∷ [])
alone t = sym (append-nil t)

one_answer : (f : Checker) (a : Answer) → ((ps : List (List ℕ)) → answers f ps ≡ a) → KeepsCheck f → ⊥
one_answer f a g k =
    let x = canonical null in
    let y = canonical (array (more none null)) in
    not_apart f k (x ∷ []) (y ∷ []) (alone x) (alone y) (g (x ∷ []) ∙ sym (g (y ∷ [])))

forgets : (f : Checker) → ((s p : List ℕ) → f.feed s p ≡ f.feed f.start p) → KeepsCheck f → ⊥
forgets f g k =
    let x = canonical null in
    let y = canonical (array (more none null)) in
    not_apart f k (x ∷ [] ∷ []) (y ∷ [] ∷ []) (alone x) (alone y) (ap f.finish (g (f.feed f.start x) [] ∙ sym (g (f.feed f.start y) [])))

first_only : (f : Checker) → ((s p q : List ℕ) → f.feed (f.feed s p) q ≡ f.feed s p) → KeepsCheck f → ⊥
first_only f g k =
    let x = canonical null in
    let y = canonical (array (more none null)) in
    not_apart f k ([] ∷ x ∷ []) ([] ∷ y ∷ []) (alone x) (alone y) (ap f.finish (g f.start [] x ∙ sym (g f.start [] y)))

-- ---- look, utf8, date

looked : {m : Meaning} (s : Small m) (f : Looker) → KeepsLook f → 0 < records m → f (tape_of m) (store_of m) 0
    ≡ Ok (get_or (records_of m 0 0) 0 Record.Null)
looked {m} s f k h = look_well_formed (well_formed s) h (k (tape_of m) (store_of m) 0 (tape_lent s) (store_lent s) (lit< tt))

misplaces : (f : Measurer) {text : List ℕ} {why : Refusal} → Lent text → TextRefused text why → (f text ≡ Err why → ⊥) → KeepsMeasure f → ⊥
misplaces f {text} l x n k = n (measure_refuses x (k text l))

misplaces_reading : (f : Reader) {text : List ℕ} {why : Refusal} → Lent text → TextRefused text why → ((f text [] []).0 ≡ Err why → ⊥) → KeepsRead f
    → ⊥
misplaces_reading f {text} l x n k = let nothing : Lent [] = record { each = tt; few = lit< tt } in n (read_refuses x (k text [] [] l nothing nothing))

looks_null : (f : Looker) → ((tape store : List ℕ) (index : ℕ) → index < whole_records tape → f tape store index ≡ Ok Record.Null) → KeepsLook f → ⊥
unfolding records records_of
looks_null f r k =
    let p : f (tape_of (bool true)) (store_of (bool true)) 0 ≡ Ok (Record.Bool true) = looked small_true f k (lit< tt) in
    let q = r (tape_of (bool true)) (store_of (bool true)) 0 (omega (arith, tape_length (bool true))) in
    let z : ◌≡◌ {A = ℕ} 0 1 = cc in
    omega arith

looks_nowhere : (f : Looker) → ((tape store : List ℕ) (index : ℕ) → (why : Refusal) × (f tape store index ≡ Err why)) → KeepsLook f → ⊥
unfolding records
looks_nowhere f r k =
    let p = looked small_null f k (lit< tt) in
    let q = (r (tape_of null) (store_of null) 0).1 in
    let z : ◌≡◌ {A = ℕ} 0 1 = cc in
    omega arith

all_utf8 : (f : List ℕ → Result (Unit {0}) IllFormed) → ((s : List ℕ) → f s ≡ Ok tt) → KeepsUtf8 f → ⊥
unfolding judged fault_from length_at is_wide count_leading_zeros
all_utf8 f r k =
    let s : List ℕ = 0xFF ∷ [] in
    let e : Err (record { place = 0 }) ≡ f s = one_outcome_utf8 (judged_is s) (k s (record { each = (lit< tt, tt); few = lit< tt })) in
    let q = r s in
    let z : ◌≡◌ {A = ℕ} 0 1 = cc in
    omega arith

no_utf8 : (f : List ℕ → Result (Unit {0}) IllFormed) → ((s : List ℕ) → (k : ℕ) × (f s ≡ Err (record { place = k }))) → KeepsUtf8 f → ⊥
no_utf8 f r k =
    let e : Ok tt ≡ f [] = one_outcome_utf8 (Judged.done Octets.none refl) (k [] (record { each = tt; few = lit< tt })) in
    let q = (r []).1 in
    let z : ◌≡◌ {A = ℕ} 0 1 = cc in
    omega arith

february_30 : Date 2000 2 30 → ⊥
unfolding is_date is_leap
february_30 d =
    let e : false ≡ true = date_is d in
    let z : ◌≡◌ {A = ℕ} 0 1 = cc in
    omega arith

long_months : (f : Calendar) → ((y m d : ℕ) → y ≤ 9999 → 1 ≤ m → m ≤ 12 → 1 ≤ d → d ≤ 31 → f y m d ≡ Ok tt) → KeepsDate f → ⊥
long_months f r k = february_30 (date_done_lem (subst (Dated 2000 2 30) (r 2000 2 30 (lit≤ tt) (lit≤ tt) (lit≤ tt) (lit≤ tt) (lit≤ tt))
    (k 2000 2 30 (lit< tt) (lit< tt) (lit< tt))))

no_date_lem : (f : Calendar) → ((y m d : ℕ) → (e : NoDate) × (f y m d ≡ Err e)) → KeepsDate f → ⊥
unfolding is_date is_leap
no_date_lem f r k = date_none (subst (Dated 2000 2 29) (r 2000 2 29).1 (k 2000 2 29 (lit< tt) (lit< tt) (lit< tt)))
    (is_date_lem {y = 2000} {m = 2} {d = 29} refl)

pub impostors : Impostors
impostors =
    record {
      refuses_all = refuses_all;
      null_for_all = null_for_all;
      touches_nothing = touches_nothing;
      leaves_tape = leaves_tape;
      leaves_store = leaves_store;
      leaves_counts = leaves_counts;
      counts_records = counts_records;
      older_jaxn = older_jaxn;
      older_json = older_json;
      repeated_jaxn = repeated_jaxn;
      repeated_json = repeated_json;
      files_jaxn = files_jaxn;
      files_json = files_json;
      refuses_filed = refuses_filed;
      one_text_jaxn = one_text_jaxn;
      one_text_json = one_text_json;
      copies = copies;
      invents = invents;
      one_count = one_count;
      counts_all = counts_all;
      misplaces = misplaces;
      misplaces_reading = misplaces_reading;
      earlier_key = earlier_key;
      measures_repeated = measures_repeated;
      reads_repeated = reads_repeated;
      checks_keys = checks_keys;
      one_answer = one_answer;
      forgets = forgets;
      first_only = first_only;
      looks_null = looks_null;
      looks_nowhere = looks_nowhere;
      all_utf8 = all_utf8;
      no_utf8 = no_utf8;
      long_months = long_months;
      no_date_lem = no_date_lem;
    }
