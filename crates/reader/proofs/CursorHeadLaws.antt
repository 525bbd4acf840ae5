-- Where a value is wanted: words, strings, binary, numbers and times. Assumes nothing.
use mathlib.Core.Path.{◌≡◌, refl, sym, ap, ◌∙◌}
use mathlib.Core.Bool.{Bool, true, false, cond}
use mathlib.Core.List.{List, [], ◌∷◌}
use Prim.Native.Nat.{ℕ, suc, ◌≤◌, ◌<◌}
use native.Mathlib.Omega.{arith}
use lib.Dec.{eqb}
use lib.ListN.{length, drop, get_or}
use Rattle.meaning.specs.declared.Refusal.{Refusal}
use Rattle.meaning.specs.declared.Refusal.TheVariants.{NotGrammar}
use Rattle.meaning.specs.Letters.{ch}
use Rattle.meaning.specs.Meaning.{Meaning}
use Rattle.meaning.specs.Tape.{store_of, records_of, bytes}
use Rattle.machine.specs.Scan.{Out, takes, breaks, over, ended, unended, goes_on, ran}
use Rattle.machine.specs.Machine.{Use, as_value, as_key, Item, word, numeric, Got, value, string, binary, Base, want, got, base}
use Rattle.machine.specs.Machine.{item, Frame, Conf, at, step, finish, on_want, on_out, odd, close_wanted, read, Bracket}
use Rattle.machine.specs.Machine.{square, curly, Class, class_of, blank_c, hash_c, slash_c, comma_c, colon_c, plus_c, quote_c, dollar_c}
use Rattle.machine.specs.Machine.{letter_n, letter_t, letter_f, letter_c, other_c, open_c, close_c}
use Rattle.machine.specs.Machine as Machine
use Rattle.machine.specs.Heard.{Heard, hears, at_want}
use Rattle.machine.specs.Names.{word_scan}
use Rattle.machine.specs.Numeric
use Rattle.reader.specs.Between.Scanning.{Goes, Refuses, Shut}
use Rattle.reader.specs.Between.Joined.{Joined, BytesSays, string_part_of, binary_part_of, whole_binary}
use Rattle.reader.specs.Between.Joined.{PartKind, string_parts, binary_parts, Uses, part_of, whole_of, item_of}
use Rattle.items.specs.Between.NumberOrTime.{Means, NumericSays}
use Rattle.reader.specs.Between.Cursor.{record_item, item_bytes, Scalar, Unwanted, ScalarSays, SpeltSays, Quoted, Opens, AtScalar}
use Rattle.items.specs.declared.Item.{Item as Taken}
use Rattle.std.specs.Prelude.{Ok, Err}
use Rattle.items.specs.Between.NumberOrTime.{Scanned}
use Rattle.reader.proofs.ScanningLaws.{move, both, alike_hearing, alike_comes, then_refused}
use Rattle.machine.proofs.Classes.{ClassIs, class_is_lem}
use Rattle.reader.proofs.KeyLaws.{not_quote}
use Rattle.reader.proofs.ScanningItemLaws.{lift_done, lift_refused}
use Rattle.reader.proofs.JoinedLaws.{whole_is}
use Rattle.machine.proofs.Lift.{item_ends, string_quiet, binary_quiet, word_quiet, numeric_quiet}
use Rattle.items.proofs.PlacesLaws.{run_break}

-- ---- words

-- a word with a letter ends past its start
word_past : (t : List ℕ) (p q c : ℕ) (a : List ℕ) → ran word_scan p (c ∷ a) t ≡ ended tt q → p < q
unfolding ran word_scan
word_past [] p q c a e = go (eqb over c) e
  where
    go : (x : Bool) → goes_on word_scan p (λ l. unended) (cond x (takes a) (breaks (NotGrammar p))) ≡ ended tt q → p < q
    go true h = absurd (let z : ◌≡◌ {A = ℕ} 0 1 = cc in omega arith)
    go false h = absurd (let z : ◌≡◌ {A = ℕ} 0 1 = cc in omega arith)
word_past (b ∷ t) p q c a e = go (eqb b c) e
  where
    go : (x : Bool) → goes_on word_scan p (λ l. ran word_scan (suc p) l t) (cond x (takes a) (breaks (NotGrammar p))) ≡ ended tt q → p < q
    go true h =
        let v = item_ends word_scan (λ l. word l Meaning.null) (λ l. value Meaning.null) (λ p s b. refl) 0 [] t (suc p) a tt q h in
        omega (arith, v.behind)
    go false h = absurd (let z : ◌≡◌ {A = ℕ} 0 1 = cc in omega arith)

-- ---- one item: what its meaning puts

means_taped : {i : Taken} {m : Meaning} → Means i m → (index start : ℕ) → records_of m index start ≡ record_item i start ∷ []
unfolding records_of
means_taped Means.null index start = refl
means_taped Means.bool index start = refl
means_taped Means.number index start = refl
means_taped Means.time index start = refl

means_stored : {i : Taken} {m : Meaning} → Means i m → store_of m ≡ []
unfolding store_of
means_stored Means.null = refl
means_stored Means.bool = refl
means_stored Means.number = refl
means_stored Means.time = refl

means_counted : {i : Taken} {m : Meaning} → Means i m → item_bytes i ≡ bytes m
unfolding store_of
means_counted Means.null = refl
means_counted Means.bool = refl
means_counted Means.number = refl
means_counted Means.time = refl

module _ (text : List ℕ) (p start : ℕ) (entry : List ℕ) where
  pub of_means : (i : Taken) (m : Meaning) (q : ℕ) → Means i m → p < q → q ≤ length text
      → ((d : ℕ) (k : List Frame) → Goes text (at (base want) d k) p (at (base (got (value m))) d k) q)
      → Scalar text p start entry entry i q
  of_means i m q v l h r = let s = means_stored v in record {
    m = m;
    runs = r;
    taped = λ index. means_taped v index start;
    filled = rw s;
    counted = means_counted v;
    room = let z = ap length s in omega arith;
    past = l;
    within = h;
  }

  -- a word whose first byte is known: the machine begins the item
  pub of_word : (w : List ℕ) (c : ℕ) (a : List ℕ) → w ≡ c ∷ a → (i : Taken) (m : Meaning) → Means i m
      → ((d : ℕ) (k : List Frame) → Goes text (at (base want) d k) p (at (item (word w m)) d k) p)
      → (r : Scanned) → SpeltSays text p w i r → ScalarSays text p start entry entry r
  of_word w c a e i m v g (Ok t) s =
      rw s.2
      (of_means i m t.end v (word_past (drop p text) p t.end c a (rw e at s.0)) s.1
      (λ d k. g d k ∙ lift_done word_scan (λ l. word l m) (λ l. value m) (λ p s b. refl) d k text p w tt t.end s.0))
  of_word w c a e i m v g (Err why) s =
      λ d k x. then_refused (g d k) (lift_refused word_scan (λ l. word l m) (λ l. value m) (λ p s b. refl) d k text p w why s)

  module _ (h : p < length text) where
    pub at_word : (c : ℕ) (a : List ℕ) (m : Meaning)
        → ((d : ℕ) (k : List Frame) → move p (at (base want) d k) (get_or text p 0) ≡ (step p (at (item (word (c ∷ a) m)) d k) (get_or text p 0), []))
        → (d : ℕ) (k : List Frame) → Goes text (at (base want) d k) p (at (item (word (c ∷ a) m)) d k) p
    at_word c a m e d k =
        alike_hearing (at (base want) d k) (at (item (word (c ∷ a) m)) d k) text p [] h (e d k) (word_quiet m c a p (get_or text p 0))

-- ---- strings and binary

quote_opens : (b : ℕ) (c : Class) → c ≡ quote_c → (p d : ℕ) (k : List Frame)
    → ◌≡◌ {A = Conf × List Heard} (on_want p d k b c, at_want c) (on_out p d k b (Machine.scan p (string_part_of as_value []) b), [])
quote_opens b c e p d k = rw e

module _ (text : List ℕ) (p start : ℕ) (entry : List ℕ) where
  module _ (h : Quoted text p) where
    opens_string : (d : ℕ) (k : List Frame) → Goes text (at (base want) d k) p (at (item (string_part_of as_value [])) d k) p
    opens_string d k =
        alike_hearing (at (base want) d k) (at (item (string_part_of as_value [])) d k) text p [] h.inside
        (quote_opens (get_or text p 0) (class_of (get_or text p 0)) h.quote p d k) (string_quiet as_value [] p (get_or text p 0))

    string_whole : (exit : List ℕ) (q n : ℕ) → Joined Use string_part_of string text p start entry exit q n → Scalar text p start entry exit (Taken.Str n) q
    unfolding records_of store_of
    string_whole exit q n w = let c = w.meant.counted in record {
      m = Meaning.string w.u;
      runs = λ d k. opens_string d k ∙ w.runs as_value d k
          ∙ whole_is (string as_value w.u) (value (Meaning.string w.u)) refl refl text q w.bare w.plusless d k;
      taped = λ index. rw c;
      filled = w.meant.filled;
      counted = c;
      room = w.meant.room;
      past = w.meant.past;
      within = w.within;
    }

    string_refused : (why : Refusal) → ((z : Use) (d : ℕ) (k : List Frame) → Refuses text (at (item (string_part_of z [])) d k) p why) → Unwanted text p why
    string_refused why w = λ d k s. then_refused (opens_string d k) (w as_value d k)

  module _ (h : p < length text) (e : get_or text p 0 ≡ ch "$") where
    opens_binary : (d : ℕ) (k : List Frame) → Goes text (at (base want) d k) p (at (item (binary_part_of tt [])) d k) p
    opens_binary d k = alike_hearing (at (base want) d k) (at (item (binary_part_of tt [])) d k) text p [] h (rw e) (binary_quiet [] p (get_or text p 0))

    binary_whole : (exit : List ℕ) (q n : ℕ) → Joined (Unit {0}) binary_part_of whole_binary text p start entry exit q n
        → Scalar text p start entry exit (Taken.Bin n) q
    unfolding records_of store_of
    binary_whole exit q n w = let c = w.meant.counted in record {
      m = Meaning.binary w.u;
      runs = λ d k. opens_binary d k ∙ w.runs tt d k
          ∙ whole_is (binary w.u) (value (Meaning.binary w.u)) refl refl text q w.bare w.plusless d k;
      taped = λ index. rw c;
      filled = w.meant.filled;
      counted = c;
      room = w.meant.room;
      past = w.meant.past;
      within = w.within;
    }

    binary_refused : (why : Refusal)
        → ((z : Unit {0}) (d : ℕ) (k : List Frame) → Refuses text (at (item (binary_part_of z [])) d k) p why) → Unwanted text p why
    binary_refused why w = λ d k s. then_refused (opens_binary d k) (w tt d k)

-- joined parts of either kind
module _ (text : List ℕ) (p start : ℕ) (entry : List ℕ) where
  pub joined_whole : (i : PartKind) → Opens i text p → (exit : List ℕ) (q n : ℕ) → Joined (Uses i) (part_of i) (whole_of i) text p start entry exit q n
      → Scalar text p start entry exit (item_of i n) q
  joined_whole string_parts h exit q n w = string_whole text p start entry h exit q n w
  joined_whole binary_parts h exit q n w = binary_whole text p start entry h.0 h.1 exit q n w

  pub joined_refused : (i : PartKind) → Opens i text p → (exit : List ℕ) (why : Refusal)
      → BytesSays (Uses i) (part_of i) (whole_of i) text p start entry exit (Err why) → Unwanted text p why
  joined_refused string_parts h exit why w = string_refused text p start entry h why w
  joined_refused binary_parts h exit why w = binary_refused text p start entry h.0 h.1 why w

-- ---- numbers and times

-- what is not there
pub record Others (b : ℕ) : Type 0 where
  pub double : b ≡ ch "\"" → ⊥
  pub single : b ≡ ch "'" → ⊥
  pub dollar : b ≡ ch "$" → ⊥
  pub n : b ≡ ch "n" → ⊥
  pub t : b ≡ ch "t" → ⊥
  pub f : b ≡ ch "f" → ⊥
  pub square : b ≡ ch "[" → ⊥
  pub curly : b ≡ ch "{" → ⊥

numeric_odd : (p d : ℕ) (k : List Frame) (b : ℕ) → Numeric.scan p Numeric.begin b ≡ breaks (NotGrammar p)
    → odd p ≡ step p (at (item (numeric Numeric.begin)) d k) b
numeric_odd p d k b e = sym (ap (λ (o : Out Numeric.St Meaning). on_out p d k b (Machine.lift numeric value o)) e)

module _ (p d : ℕ) (k : List Frame) where
  -- and where no bracket closes, nothing is heard
  other_class : (b : ℕ) (c : Class) → ClassIs b c → Others b → (c ≡ blank_c → ⊥) → (c ≡ hash_c → ⊥) → (c ≡ slash_c → ⊥)
      → (c ≡ quote_c → ⊥) → ((y : Bracket) → c ≡ close_c y → close_wanted p d y k ≡ odd p)
      → (on_want p d k b c ≡ step p (at (item (numeric Numeric.begin)) d k) b) × (((y : Bracket) → c ≡ close_c y → ⊥) → at_want c ≡ [])
  other_class b blank_c x o i j l q s = absurd (i refl)
  other_class b hash_c x o i j l q s = absurd (j refl)
  other_class b slash_c x o i j l q s = absurd (l refl)
  other_class b quote_c x o i j l q s = absurd (q refl)
  other_class b dollar_c x o i j l q s = absurd (o.dollar x)
  other_class b letter_n x o i j l q s = absurd (o.n x)
  other_class b letter_t x o i j l q s = absurd (o.t x)
  other_class b letter_f x o i j l q s = absurd (o.f x)
  other_class b letter_c x o i j l q s = (refl, λ n. refl)
  other_class b other_c x o i j l q s = (refl, λ n. refl)
  other_class b plus_c x o i j l q s = (refl, λ n. refl)
  other_class b comma_c x o i j l q s = (numeric_odd p d k b (rw x), λ n. refl)
  other_class b colon_c x o i j l q s = (numeric_odd p d k b (rw x), λ n. refl)
  other_class b (open_c square) x o i j l q s = absurd (o.square x)
  other_class b (open_c curly) x o i j l q s = absurd (o.curly x)
  other_class b (close_c square) x o i j l q s = (s square refl ∙ numeric_odd p d k b (rw x), λ n. absurd (n square refl))
  other_class b (close_c curly) x o i j l q s = (s curly refl ∙ numeric_odd p d k b (rw x), λ n. absurd (n curly refl))

closes_none : (p b : ℕ) (c : Class) → ClassIs b c → (y : Bracket) → c ≡ close_c y → Numeric.scan p Numeric.begin b ≡ breaks (NotGrammar p)
closes_none p b c x square e = let z : ClassIs b (close_c square) = rw e at x in rw z
closes_none p b c x curly e = let z : ClassIs b (close_c curly) = rw e at x in rw z

module _ (text : List ℕ) (p start : ℕ) (entry : List ℕ) (v : AtScalar text p start) (o : Others (get_or text p 0)) where
  begins_numeric : (d : ℕ) (k : List Frame) → Shut text p d k
      → (step p (at (base want) d k) (get_or text p 0) ≡ step p (at (item (numeric Numeric.begin)) d k) (get_or text p 0))
      × (((y : Bracket) → class_of (get_or text p 0) ≡ close_c y → ⊥) → hears p (at (base want) d k) (get_or text p 0) ≡ [])
  begins_numeric d k s = let h = v.inside in
      other_class p d k (get_or text p 0) (class_of (get_or text p 0)) (class_is_lem (get_or text p 0)) o (v.bare.no_blank h)
      (v.bare.no_hash h) (v.bare.no_slash h) (not_quote (get_or text p 0) o.double o.single) (s h)

  module _ (m : Meaning) (q : ℕ) (e : ran Numeric.scan p Numeric.begin (drop p text) ≡ ended m q) where
    -- where an item is taken, no bracket closes
    never_closes : (y : Bracket) → class_of (get_or text p 0) ≡ close_c y → ⊥
    never_closes y f =
        let r = run_break Numeric.scan text p Numeric.begin (NotGrammar p) v.inside
        (closes_none p (get_or text p 0) (class_of (get_or text p 0)) (class_is_lem (get_or text p 0)) y f) in
        let z : ◌≡◌ {A = ℕ} 0 1 = cc in omega arith

    opens_numeric : (d : ℕ) (k : List Frame) → Goes text (at (base want) d k) p (at (item (numeric Numeric.begin)) d k) p
    opens_numeric d k = let z = begins_numeric d k (λ h y f. absurd (never_closes y f)) in
        alike_hearing (at (base want) d k) (at (item (numeric Numeric.begin)) d k) text p [] v.inside (both z.0 (z.1 never_closes))
        (numeric_quiet p (get_or text p 0))

  pub of_numeric : (r : Scanned) → NumericSays text p r → ScalarSays text p start entry entry r
  of_numeric (Ok t) w = of_means text p start entry t.value w.m t.end w.means w.past w.within
      (λ d k. opens_numeric w.m t.end w.runs d k ∙ lift_done Numeric.scan numeric value
      (λ p s b. refl) d k text p Numeric.begin w.m t.end w.runs)
  of_numeric (Err why) w =
      λ d k s. alike_comes (at (base want) d k) (at (item (numeric Numeric.begin)) d k) text p v.inside (begins_numeric d k s).0
      ∙ lift_refused Numeric.scan numeric value (λ p s b. refl) d k text p Numeric.begin why w
