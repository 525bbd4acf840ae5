-- A key, spelled a byte at a time: each step of the code goes with the scanner of a string part or of an identifier. Assumes nothing.
use mathlib.Core.Path.{◌≡◌, refl, sym, ap, ◌∙◌, subst}
use mathlib.Core.Bool.{Bool, true, false, cond}
use mathlib.Core.Logic.{◌⊎◌, inl, inr}
use mathlib.Core.List.{List, [], ◌∷◌, ◌++◌, append_assoc, append-nil}
use Prim.Native.Nat.{ℕ, suc, ◌+◌, ◌*◌, ◌-◌, ◌/◌, ◌%◌, ◌≤◌, ◌<◌}
use native.Mathlib.Omega.{arith}
use native.Mathlib.Nat.{zero-add}
use native.Mathlib.Decide.{dec_lt, ℕ_discrete}
use lib.Dec.{eqb}
use lib.ListN.{length, drop, get_or, take, replicate, drop_of_length-le}
use lib.Seq.{drop-drop}
use borrow.Author.Tests.{ne_eqb, eq-eqb, eqb-true}
use Rattle.rules.specs.Rfc3629.{encode}
use Rattle.rules.proofs.Numbers.{row_1, row_2, row_3, row_4}
use Rattle.meaning.specs.declared.Refusal.{Refusal}
use Rattle.meaning.specs.declared.Refusal.TheVariants.{NotGrammar, BadEscape}
use Rattle.meaning.specs.Letters.{ch}
use Rattle.machine.specs.Scan.{Out, takes, breaks, over, ended, broke, ran}
use Rattle.machine.specs.Strings
use Rattle.machine.specs.Strings.{Bad, fine, spoilt, whole, mk, St, one, two, lines0, lines, body, done, begin, plain_byte, line_byte, on_body, on_lines, first}
use Rattle.machine.specs.Names
use Rattle.machine.specs.Machine.{class_of, quote_c}
use Rattle.items.specs.Between.Places.{byte_at, Goes, ran_at, Runs}
use Rattle.items.specs.Between.StringPart.{Read, Blamed, Begun}
use Rattle.items.proofs.PlacesLaws.{alike, byte_in, byte_out, runs_by, broken_by, ended_by, run_take, run_stop, run_break, end_stop, end_break}
use Rattle.reader.specs.Between.Joined.{Alone, Joining, Stray}
use Rattle.reader.specs.Between.Repeat.{KeyIs}
use Rattle.reader.specs.Between.Spelling.{due_of, OctetSays, NamesNext, got_parts, got_name, Part, Inside, between, Quoting, Naming, Spells}
use Rattle.reader.specs.Between.Spelling.{InText, to_come, Further, StepFromSays, StepSays, LetterSays, ThreeSays}
use Rattle.reader.specs.declared.spelling.Spelling.{Spelling}
use Rattle.reader.specs.declared.spelling.Spelt.{Spelt}
use Rattle.std.specs.Prelude.{Some, None}
use Rattle.reader.proofs.JoinedLaws.{part_here, part_length}
use Rattle.reader.proofs.KeyLaws.{not_quote}
use Rattle.reader.proofs.SpellingHeardLaws.{Ends, name_is, end_names, parts_are, parts_go_on, parts_stray, next_part, key_part, key_name}

-- ---- a character's bytes

-- the UTF-8 form of a character, by its length
data Form (c : ℕ) : List ℕ → Type 0 where
  form1 : c < 0x80 → Form c (c ∷ [])
  form2 : 0x80 ≤ c → c < 0x800 → Form c ((0xC0 + c / 64) ∷ (0x80 + c % 64) ∷ [])
  form3 : 0x800 ≤ c → c < 0x10000 → Form c ((0xE0 + c / 4096) ∷ (0x80 + c / 64 % 64) ∷ (0x80 + c % 64) ∷ [])
  form4 : 0x10000 ≤ c → Form c ((0xF0 + c / 262144) ∷ (0x80 + c / 4096 % 64) ∷ (0x80 + c / 64 % 64) ∷ (0x80 + c % 64) ∷ [])

form_is : (c : ℕ) → Form c (encode c)
form_is c = by (dec_lt c 0x80) (dec_lt c 0x800) (dec_lt c 0x10000)
  where
    by : Dec (c < 0x80) → Dec (c < 0x800) → Dec (c < 0x10000) → Form c (encode c)
    by (Dec.yes h) x y = rw (row_1 c (omega arith)) (form1 h)
    by (Dec.no h) (Dec.yes x) y = rw (row_2 c (omega arith) (omega arith)) (form2 (omega arith) x)
    by (Dec.no h) (Dec.no x) (Dec.yes y) = rw (row_3 c (omega arith) (omega arith)) (form3 (omega arith) y)
    by (Dec.no h) (Dec.no x) (Dec.no y) = rw (row_4 c (omega arith)) (form4 (omega arith))

-- its last bytes, so many
abbrev last_of : List ℕ → ℕ → List ℕ
last_of s left = drop (length s - left) s

module _ (c : ℕ) where
  last1 : (s : List ℕ) → Form c s → 0x80 ≤ c → last_of s 1 ≡ (0x80 + c % 64) ∷ last_of s 0
  last1 s (form1 h) l = absurd (omega arith)
  last1 s (form2 h g) l = refl
  last1 s (form3 h g) l = refl
  last1 s (form4 h) l = refl

  only1 : (s : List ℕ) → Form c s → c < 0x80 → last_of s 1 ≡ c ∷ last_of s 0
  only1 s (form1 h) l = refl
  only1 s (form2 h g) l = absurd (omega arith)
  only1 s (form3 h g) l = absurd (omega arith)
  only1 s (form4 h) l = absurd (omega arith)

  last2 : (s : List ℕ) → Form c s → 0x800 ≤ c → last_of s 2 ≡ (0x80 + c / 64 % 64) ∷ last_of s 1
  last2 s (form1 h) l = absurd (omega arith)
  last2 s (form2 h g) l = absurd (omega arith)
  last2 s (form3 h g) l = refl
  last2 s (form4 h) l = refl

  first2 : (s : List ℕ) → Form c s → c < 0x800 → 2 ≤ length s → last_of s 2 ≡ (0xC0 + c / 64) ∷ last_of s 1
  first2 s (form1 h) l n = absurd (omega arith)
  first2 s (form2 h g) l n = refl
  first2 s (form3 h g) l n = absurd (omega arith)
  first2 s (form4 h) l n = absurd (omega arith)

  last3 : (s : List ℕ) → Form c s → 0x10000 ≤ c → last_of s 3 ≡ (0x80 + c / 4096 % 64) ∷ last_of s 2
  last3 s (form1 h) l = absurd (omega arith)
  last3 s (form2 h g) l = absurd (omega arith)
  last3 s (form3 h g) l = absurd (omega arith)
  last3 s (form4 h) l = refl

  first3 : (s : List ℕ) → Form c s → c < 0x10000 → 3 ≤ length s → last_of s 3 ≡ (0xE0 + c / 4096) ∷ last_of s 2
  first3 s (form1 h) l n = absurd (omega arith)
  first3 s (form2 h g) l n = absurd (omega arith)
  first3 s (form3 h g) l n = refl
  first3 s (form4 h) l n = absurd (omega arith)

  first4 : (s : List ℕ) → Form c s → 4 ≤ length s → last_of s 4 ≡ (0xF0 + c / 262144) ∷ last_of s 3
  first4 s (form1 h) n = absurd (omega arith)
  first4 s (form2 h g) n = absurd (omega arith)
  first4 s (form3 h g) n = absurd (omega arith)
  first4 s (form4 h) n = refl

  form_short : (s : List ℕ) → Form c s → (length s ≤ 4) × (0 < length s)
  form_short s (form1 h) = (omega arith, omega arith)
  form_short s (form2 h g) = (omega arith, omega arith)
  form_short s (form3 h g) = (omega arith, omega arith)
  form_short s (form4 h) = (omega arith, omega arith)

  pub octets_few : (length (encode c) ≤ 4) × (0 < length (encode c))
  octets_few = form_short (encode c) (form_is c)

  module _ (left : ℕ) where
    pub octet_1 : left ≡ 1 → c < 0x80 → OctetSays c left c
    octet_1 e h p n = rw e (only1 (encode c) (form_is c) h)

    pub octet_1_last : left ≡ 1 → 0x80 ≤ c → OctetSays c left (0x80 + c % 64)
    octet_1_last e h p n = rw e (last1 (encode c) (form_is c) h)

    pub octet_2 : left ≡ 2 → c < 0x800 → OctetSays c left (0xC0 + c / 64)
    octet_2 e h p n = rw e (first2 (encode c) (form_is c) h (omega arith))

    pub octet_2_last : left ≡ 2 → 0x800 ≤ c → OctetSays c left (0x80 + c / 64 % 64)
    octet_2_last e h p n = rw e (last2 (encode c) (form_is c) h)

    pub octet_3 : left ≡ 3 → c < 0x10000 → OctetSays c left (0xE0 + c / 4096)
    octet_3 e h p n = rw e (first3 (encode c) (form_is c) h (omega arith))

    pub octet_3_last : left ≡ 3 → 0x10000 ≤ c → OctetSays c left (0x80 + c / 4096 % 64)
    octet_3_last e h p n = rw e (last3 (encode c) (form_is c) h)

    pub octet_4 : (left ≡ 1 → ⊥) → (left ≡ 2 → ⊥) → (left ≡ 3 → ⊥) → OctetSays c left (0xF0 + c / 262144)
    octet_4 i j k p n =
        let e : left ≡ 4 = omega (arith, octets_few) in
        rw e (first4 (encode c) (form_is c) (omega arith))

  pub octets_1 : c < 0x80 → 1 ≡ length (encode c)
  octets_1 h = rw (row_1 c (omega arith))

  pub octets_2 : 0x80 ≤ c → c < 0x800 → 2 ≡ length (encode c)
  octets_2 l h = rw (row_2 c (omega arith) (omega arith))

  pub octets_3 : 0x800 ≤ c → c < 0x10000 → 3 ≡ length (encode c)
  octets_3 l h = rw (row_3 c (omega arith) (omega arith))

  pub octets_4 : 0x10000 ≤ c → 4 ≡ length (encode c)
  octets_4 l = rw (row_4 c (omega arith))

-- ---- what a step promises, further on

pub further_more : {text : List ℕ} {m : ℕ} (n : ℕ) {s : Spelling} → m ≤ n → Further text m s → Further text n s
further_more n l h = record { within = h.within; falls = omega (arith, h.falls) }

module _ (text : List ℕ) (m n : ℕ) where
  -- from another state that leads to the same keys
  pub spelt_from : (From Was : List ℕ → List ℕ → Type 0) (r : Spelt) → m ≤ n → ((e u : List ℕ) → Was e u → From e u)
      → StepFromSays text m From r → StepFromSays text n Was r
  spelt_from From Was (Spelt.Byte b s) l f w = (further_more n l w.0, λ e u h. w.1 e u (f e u h))
  spelt_from From Was (Spelt.On s) l f w = (further_more n l w.0, λ e u h. w.1 e u (f e u h))
  spelt_from From Was Spelt.Over l f w = λ e u h. w e u (f e u h)

-- ---- a part

module _ {text : List ℕ} {before u : List ℕ} where
  -- the scanner goes on
  pub part_on : {s : St} {p : ℕ} (t : St) (q : ℕ) → Runs Strings.scan text s p t q → Part text s p before u → Part text t q before u
  part_on t q g w = record { value = w.value; close = w.close; runs = sym g ∙ w.runs; names = w.names }

  -- it does not break
  pub part_whole : {s : St} {p : ℕ} (r : Refusal) → ran_at Strings.scan text s p ≡ broke r → Part text s p before u → ⊥
  part_whole r g w = let e = w.runs in let z : ◌≡◌ {A = ℕ} 0 1 = cc in omega arith

  -- it closes
  pub part_closes : {s : St} {p : ℕ} (v : List ℕ) (q : ℕ) → ran_at Strings.scan text s p ≡ ended v q → Part text s p before u
      → NamesNext text (got_parts (before ++ v)) q u
  part_closes v q g w =
      let e = w.runs in
      let x : w.value ≡ v = cc in
      let y : w.close ≡ q = cc in
      subst (λ (n : ℕ). NamesNext text (got_parts (before ++ v)) n u) y (subst (λ (a : List ℕ). NamesNext text (got_parts (before ++ a)) w.close u) x
      w.names)

pub part_of : (text : List ℕ) (p : ℕ) (e u : List ℕ) → Ends text (ran_at Strings.scan text begin p) (λ v. got_parts (e ++ v)) u → Part text begin p e u
part_of text p e u w = record { value = w.value; close = w.close; runs = w.runs; names = w.names }

-- ---- after a part

module _ (text : List ℕ) (p : ℕ) where
  abbrev Behind : List ℕ → List ℕ → Type 0
  Behind e u = NamesNext text (got_parts e) p u

  pub after_last : (q : ℕ) → Alone text p q → (e u : List ℕ) → Behind e u → e ≡ u
  after_last q a e u h = parts_are text u e p q a h

  pub after_stray : (why : Refusal) → Stray text p why → (e u : List ℕ) → Behind e u → e ≡ u
  after_stray why s e u h = absurd (parts_stray text u e p why s h)

  pub after_next : (q : ℕ) → p ≤ length text → Joining text p q → StepFromSays text (8 * (length text - p)) Behind (Spelt.On (Spelling.Opening q))
  after_next q l j = (
    record { within = j.within; falls = omega (arith, j.past, j.within) },
    λ e u h. part_of text q e u (next_part text q e u (parts_go_on text u e p q j h)),
  )

-- ---- where a part begins

module _ {S M : Type 0} (scan : ℕ → S → ℕ → Out S M) (text : List ℕ) where
  -- places from the text's first byte
  zeroed : (c : S) (p : ℕ) → ran scan (0 + p) c (drop p text) ≡ ran_at scan text c p
  zeroed c p = ap (λ (n : ℕ). ran scan n c (drop p text)) (zero-add p)

  runs_zero : (c d : S) (p q : ℕ) → Goes scan 0 text c p d q → Runs scan text c p d q
  runs_zero c d p q g = sym (zeroed c p) ∙ g ∙ zeroed d q

  -- two states that do the same at p
  runs_alike : (c d : S) (p : ℕ) → ((n : ℕ) → scan n c (byte_at text p) ≡ scan n d (byte_at text p)) → Runs scan text c p d p
  runs_alike c d p x = runs_zero c d p p (alike scan 0 text c d p (x (0 + p)))

start_quote : (p b : ℕ) → ((b ≡ ch "\"" → ⊥) → b ≡ ch "'") → Strings.scan p begin b ≡ takes (one b)
unfolding Strings.scan
start_quote p b f = by (ℕ_discrete b (ch "\""))
  where
    by : Dec (b ≡ ch "\"") → Strings.scan p begin b ≡ takes (one b)
    by (Dec.yes e) = rw (eq-eqb b (ch "\"") e)
    by (Dec.no i) = rw (ne_eqb b (ch "\"") i, eq-eqb b (ch "'") (f i))

start_other : (p b : ℕ) → (b ≡ ch "\"" → ⊥) → (b ≡ ch "'" → ⊥) → Strings.scan p begin b ≡ breaks (NotGrammar p)
unfolding Strings.scan
start_other p b i j = rw (ne_eqb b (ch "\"") i, ne_eqb b (ch "'") j)

-- the byte that opens a part
abbrev Quote : ℕ → Type 0
Quote b = (b ≡ ch "\"" → ⊥) → b ≡ ch "'"

quote_high : (b : ℕ) → Quote b → (0x20 < b) × (b < 256)
quote_high b f = by (ℕ_discrete b (ch "\""))
  where
    by : Dec (b ≡ ch "\"") → (0x20 < b) × (b < 256)
    by (Dec.yes e) = (omega arith, omega arith)
    by (Dec.no n) = (omega (arith, f n), omega (arith, f n))

module _ (text : List ℕ) (p : ℕ) (e u : List ℕ) (w : Part text begin p e u) where
  opens_within : length text ≤ p → ⊥
  unfolding Strings.scan
  opens_within l = part_whole (NotGrammar p) (end_break Strings.scan text p begin (NotGrammar p) l refl) w

  module _ (l : p < length text) where
    opens_quote : Quote (get_or text p 0)
    opens_quote i = by (ℕ_discrete (get_or text p 0) (ch "'"))
      where
        by : Dec (get_or text p 0 ≡ ch "'") → get_or text p 0 ≡ ch "'"
        by (Dec.yes e) = e
        by (Dec.no j) = absurd (part_whole (NotGrammar p) (run_break Strings.scan text p begin (NotGrammar p) l (start_other p (get_or text p 0) i j)) w)

    opens_one : Part text (one (get_or text p 0)) (p + 1) e u
    opens_one = part_on (one (get_or text p 0)) (p + 1) (run_take Strings.scan text p begin
        (one (get_or text p 0)) l (start_quote p (get_or text p 0) opens_quote)) w

    -- one quote
    module _ (n : p + 1 < length text) where
      opens_plain : (get_or text (p + 1) 0 ≡ get_or text p 0 → ⊥) → Part text (between (get_or text p 0) fine []) (p + 1) e u
      unfolding Strings.scan
      opens_plain d =
          let i : byte_at text (p + 1) ≡ get_or text p 0 → ⊥ = λ x. d (sym (byte_in text (p + 1) n) ∙ x) in
          part_on (between (get_or text p 0) fine []) (p + 1)
          (runs_alike Strings.scan text (one (get_or text p 0)) (between (get_or text p 0) fine []) (p + 1) (λ m. rw (ne_eqb _ _ i))) opens_one

      -- two
      module _ (d : get_or text (p + 1) 0 ≡ get_or text p 0) where
        opens_two : Part text (two (get_or text p 0)) (p + 2) e u
        unfolding Strings.scan
        opens_two =
            part_on (two (get_or text p 0)) (p + 2)
            (runs_by Strings.scan text (one (get_or text p 0)) (two (get_or text p 0)) (p + 1) (p + 2) n (omega arith)
            (rw (byte_in text (p + 1) n) (rw (eq-eqb _ _ d)))) opens_one

        -- an empty part
        opens_empty : (byte_at text (p + 2) ≡ get_or text p 0 → ⊥) → NamesNext text (got_parts e) (p + 2) u
        unfolding Strings.scan
        opens_empty i =
            subst (λ (a : List ℕ). NamesNext text (got_parts a) (p + 2) u) (append-nil e)
            (part_closes [] (p + 2) (ended_by Strings.scan text (two (get_or text p 0)) [] (p + 2) (rw (ne_eqb _ _ i))) opens_two)

        -- three
        opens_lines : p + 2 < length text → get_or text (p + 2) 0 ≡ get_or text p 0 → Part text (lines0 (get_or text p 0)) (p + 3) e u
        unfolding Strings.scan
        opens_lines m d2 =
            part_on (lines0 (get_or text p 0)) (p + 3)
            (runs_by Strings.scan text (two (get_or text p 0)) (lines0 (get_or text p 0)) (p + 2) (p + 3) m (omega arith)
            (rw (byte_in text (p + 2) m) (rw (eq-eqb _ _ d2)))) opens_two

    -- the text ends behind a quote
    opens_more : length text ≤ p + 1 → ⊥
    unfolding Strings.scan on_body plain_byte
    opens_more n =
        let i : over ≡ get_or text p 0 → ⊥ = λ x. omega (arith, (quote_high (get_or text p 0) opens_quote).1) in
        part_whole (NotGrammar (p + 1)) (end_break Strings.scan text (p + 1) (one (get_or text p 0)) (NotGrammar (p + 1)) n
        (simp (ne_eqb over (get_or text p 0) i))) opens_one

module _ (text : List ℕ) (p : ℕ) where
  pub opening_over : length text ≤ p → StepSays text (Spelling.Opening p) Spelt.Over
  opening_over l e u w = absurd (opens_within text p e u w l)

  module _ (l : p < length text) where
    pub opening_cut : length text ≤ p + 1 → StepSays text (Spelling.Opening p) Spelt.Over
    opening_cut n e u w = absurd (opens_more text p e u w l n)

    module _ (n : p + 1 < length text) where
      pub opening_plain : (get_or text (p + 1) 0 ≡ get_or text p 0 → ⊥) → StepSays text (Spelling.Opening p)
          (Spelt.On (Spelling.Quoted (p + 1) (get_or text p 0)))
      opening_plain d = (
        record { within = omega arith; falls = omega arith },
        λ e u w. (fine, record { before = e; so_far = []; part = opens_plain text p e u w l n d; given = sym (append-nil e) }),
      )

      module _ (d : get_or text (p + 1) 0 ≡ get_or text p 0) where
        -- no third quote, or the text's end
        opening_third : (e u : List ℕ) → Part text begin p e u → (byte_at text (p + 2) ≡ get_or text p 0 → ⊥) → NamesNext text (got_parts e) (p + 2) u
        opening_third e u w i = opens_empty text p e u w l n d i

        pub opening_short : length text ≤ p + 2 → StepSays text (Spelling.Opening p) Spelt.Over
        opening_short m e u w =
            let i : byte_at text (p + 2) ≡ get_or text p 0 → ⊥ =
            λ x. omega (arith, (quote_high (get_or text p 0) (opens_quote text p e u w l)).1, sym (byte_out text (p + 2) m) ∙ x) in
            absurd (end_names text u (got_parts e) (p + 2) m (opening_third e u w i))

        module _ (m : p + 2 < length text) where
          pub opening_empty : (get_or text (p + 2) 0 ≡ get_or text p 0 → ⊥) → (r : Spelt)
              → StepFromSays text (8 * (length text - (p + 2))) (λ e u. NamesNext text (got_parts e) (p + 2) u) r → StepSays text (Spelling.Opening p) r
          opening_empty i r w =
              spelt_from text (8 * (length text - (p + 2))) (8 * (length text - p)) (λ e u. NamesNext text (got_parts e) (p + 2) u) (Part text begin p) r
              (omega arith)
              (λ e u v. opening_third e u v (λ x. i (sym (byte_in text (p + 2) m) ∙ x))) w

          pub opening_lines : get_or text (p + 2) 0 ≡ get_or text p 0 → (r : ℕ) → Begun (take (length text - p) (drop p text)) r
              → StepSays text (Spelling.Opening p) (Spelt.On (Spelling.Lines (p + r) (get_or text p 0)))
          opening_lines d2 r b =
              let k = part_length text p in (
                record { within = omega (arith, b.within); falls = omega (arith, b.within, b.past) },
                λ e u w. record {
                  before = e;
                  so_far = [];
                  part = part_on (lines (get_or text p 0) 0 []) (p + r) (shifted (get_or text p 0)
                      (quote_high (get_or text p 0) (opens_quote text p e u w l)).0)
                      (opens_lines text p e u w l n d m d2);
                  given = sym (append-nil e);
                },
              )
            where
              shifted : (q : ℕ) → 0x20 < q → Runs Strings.scan text (lines0 q) (p + 3) (lines q 0 []) (p + r)
              shifted q h = rw (part_here text p, drop-drop, drop-drop) at (b.goes p q h)

-- ---- in a part

module _ {text : List ℕ} {state : List ℕ → St} {p : ℕ} {e u : List ℕ} (w : Inside text state p e u) where
  -- these bytes come
  pub inside_more : {state' : List ℕ → St} (q : ℕ) (bs : List ℕ) → ((acc : List ℕ) → Runs Strings.scan text (state acc) p (state' (acc ++ bs)) q)
      → Inside text state' q (e ++ bs) u
  inside_more {state'} q bs g = record {
    before = w.before;
    so_far = w.so_far ++ bs;
    part = part_on (state' (w.so_far ++ bs)) q (g w.so_far) w.part;
    given = ap (λ (a : List ℕ). a ++ bs) w.given ∙ append_assoc w.before w.so_far bs;
  }

  pub inside_on : {state' : List ℕ → St} (q : ℕ) → ((acc : List ℕ) → Runs Strings.scan text (state acc) p (state' acc) q) → Inside text state' q e u
  inside_on {state'} q g = record { before = w.before; so_far = w.so_far; part = part_on (state' w.so_far) q (g w.so_far) w.part; given = w.given }

  pub inside_whole : (r : Refusal) → ((acc : List ℕ) → ran_at Strings.scan text (state acc) p ≡ broke r) → ⊥
  inside_whole r g = part_whole r (g w.so_far) w.part

  pub inside_closes : (q : ℕ) → ((acc : List ℕ) → ran_at Strings.scan text (state acc) p ≡ ended acc q) → NamesNext text (got_parts e) q u
  inside_closes q g = subst (λ (a : List ℕ). NamesNext text (got_parts a) q u) (sym w.given) (part_closes w.so_far q (g w.so_far) w.part)

module _ (text : List ℕ) (p quote : ℕ) (small : quote < 256) where
  pub quoted_over : length text ≤ p → StepSays text (Spelling.Quoted p quote) Spelt.Over
  unfolding Strings.scan on_body plain_byte
  quoted_over l e u w =
      let i : over ≡ quote → ⊥ = λ x. omega arith in
      absurd (inside_whole w.1 (NotGrammar p) (λ acc. end_break Strings.scan text p (between quote w.0 acc) (NotGrammar p) l
      (simp (ne_eqb over quote i))))

  module _ (l : p < length text) where
    module _ (i : get_or text p 0 ≡ ch "\\" → ⊥) where
      -- the closing quote
      closing : get_or text p 0 ≡ quote → (bad : Bad) (acc : List ℕ) → Runs Strings.scan text (between quote bad acc) p (done (mk quote bad whole acc)) (p + 1)
      unfolding Strings.scan on_body
      closing d bad acc = run_take Strings.scan text p (between quote bad acc) (done (mk quote bad whole acc)) l (rw (ne_eqb _ _ i, eq-eqb _ _ d))

      -- no bad escape has come
      closed_fine : get_or text p 0 ≡ quote → (bad : Bad) (e u : List ℕ) → Inside text (between quote bad) p e u → NamesNext text (got_parts e) (p + 1) u
      unfolding Strings.scan
      closed_fine d fine e u w =
          inside_closes w (p + 1) (λ acc. closing d fine acc ∙ ended_by Strings.scan text (done (mk quote fine whole acc)) acc (p + 1) refl)
      closed_fine d (spoilt b) e u w =
          absurd (inside_whole w (BadEscape b) (λ acc. closing d (spoilt b) acc ∙ broken_by Strings.scan text (done (mk quote (spoilt b) whole acc))
          (BadEscape b) (p + 1) refl))

      pub quoted_closes : get_or text p 0 ≡ quote → (r : Spelt)
          → StepFromSays text (8 * (length text - (p + 1))) (λ e u. NamesNext text (got_parts e) (p + 1) u) r → StepSays text (Spelling.Quoted p quote) r
      quoted_closes d r w =
          spelt_from text (8 * (length text - (p + 1))) (8 * (length text - p)) (λ e u. NamesNext text (got_parts e) (p + 1) u) (Quoting text p quote) r
          (omega arith)
          (λ e u v. closed_fine d v.0 e u v.1) w

      byte_on : (get_or text p 0 ≡ quote → ⊥) → (bad : Bad) (acc : List ℕ) (x : Bool) → plain_byte (get_or text p 0) ≡ x
          → Strings.scan p (between quote bad acc) (get_or text p 0) ≡ cond x (takes (between quote bad (acc ++ (get_or text p 0 ∷ []))))
          (breaks (NotGrammar p))
      unfolding Strings.scan on_body
      byte_on d bad acc x e = rw (ne_eqb _ _ i, ne_eqb _ _ d, e)

      pub quoted_byte : (get_or text p 0 ≡ quote → ⊥) → StepSays text (Spelling.Quoted p quote) (Spelt.Byte (get_or text p 0) (Spelling.Quoted (p + 1) quote))
      quoted_byte d = (record { within = omega arith; falls = omega arith }, λ e u w. (w.0, by e u w.0 w.1 (plain_byte (get_or text p 0)) refl))
        where
          by : (e u : List ℕ) (bad : Bad) → Inside text (between quote bad) p e u → (x : Bool) → plain_byte (get_or text p 0) ≡ x
              → Inside text (between quote bad) (p + 1) (e ++ (get_or text p 0 ∷ [])) u
          by e u bad w true x =
              inside_more w {state' = between quote bad} (p + 1) (get_or text p 0 ∷ [])
              (λ acc. run_take Strings.scan text p (between quote bad acc) (between quote bad (acc ++ (get_or text p 0 ∷ []))) l (byte_on d bad acc true x))
          by e u bad w false x = absurd (inside_whole w (NotGrammar p) (λ acc. run_break Strings.scan text p (between quote bad acc) (NotGrammar p) l
              (byte_on d bad acc false x)))

  pub escaped_bad : (q : ℕ) → Blamed text p q → StepSays text (Spelling.Quoted p quote) (Spelt.On (Spelling.Quoted q quote))
  escaped_bad q g = (
    record { within = g.within; falls = omega (arith, g.past, g.within) },
    λ e u w. (
      first w.0 (0 + p),
      inside_on w.1 {state' = between quote (first w.0 (0 + p))} q
          (λ acc. runs_zero Strings.scan text (between quote w.0 acc) (between quote (first w.0 (0 + p)) acc) p q (g.goes 0 quote w.0 acc)),
    ),
  )

  pub escaped_whole : (c q : ℕ) → Read text p q c → (r : Spelt) → StepSays text (Spelling.Due c (length (encode c)) q quote) r
      → StepSays text (Spelling.Quoted p quote) r
  escaped_whole c q g r w =
      spelt_from text (8 * (length text - q) + length (encode c)) (8 * (length text - p)) (Spells text (Spelling.Due c (length (encode c)) q quote))
      (Quoting text p quote) r
      (omega (arith, g.past, g.within, octets_few c)) (λ e u v. (omega arith, (v.0, all_due e u v.0 v.1))) w
    where
      all_due : (e u : List ℕ) (bad : Bad) → Inside text (between quote bad) p e u → Inside text (between quote bad) q (e ++ due_of c (length (encode c))) u
      all_due e u bad v =
          let z : length (encode c) - length (encode c) ≡ 0 = omega arith in
          rw z (inside_more v {state' = between quote bad} q (encode c)
          (λ acc. runs_zero Strings.scan text (between quote bad acc) (between quote bad (acc ++ encode c)) p q (g.goes 0 quote bad acc)))

-- ---- a character of which bytes are due

module _ (text : List ℕ) (p c left quote : ℕ) (l : p ≤ length text) (b : ℕ) (o : OctetSays c left b) (some : 0 < left) (few : left ≤ 4) where
  -- its next byte
  due_byte : (e u : List ℕ) → Spells text (Spelling.Due c left p quote) e u → Quoting text p quote ((e ++ (b ∷ [])) ++ due_of c (left - 1)) u
  due_byte e u w =
      let x : e ++ due_of c left ≡ (e ++ (b ∷ [])) ++ due_of c (left - 1) = ap (λ (a : List ℕ). e ++ a) (o some w.0)
      ∙ sym (append_assoc e (b ∷ []) (due_of c (left - 1))) in
      subst (λ (a : List ℕ). Quoting text p quote a u) x w.1

  pub due_more : c ≤ 0x10FFFF → 1 < left → StepSays text (Spelling.Due c left p quote) (Spelt.Byte b (Spelling.Due c (left - 1) p quote))
  due_more k h = (
    record { within = (l, k, omega arith, omega arith); falls = omega arith },
    λ e u w. (omega (arith, w.0), due_byte e u w),
  )

  pub due_last : left ≤ 1 → StepSays text (Spelling.Due c left p quote) (Spelt.Byte b (Spelling.Quoted p quote))
  due_last h = (record { within = l; falls = omega arith }, λ e u w. none_due e u (due_byte e u w))
    where
      none_due : (e u : List ℕ) → Quoting text p quote ((e ++ (b ∷ [])) ++ due_of c (left - 1)) u → Quoting text p quote (e ++ (b ∷ [])) u
      none_due e u w =
          let z : length (encode c) - (left - 1) ≡ length (encode c) = omega arith in
          let y : due_of c (left - 1) ≡ [] = rw z (drop_of_length-le (encode c) {i = length (encode c)} (omega arith)) in
          subst (λ (a : List ℕ). Quoting text p quote a u) (ap (λ (a : List ℕ). (e ++ (b ∷ [])) ++ a) y ∙ append-nil (e ++ (b ∷ []))) w

-- ---- in a part of many lines

-- quotes before a byte that is none are the part's own
own_quote : (m q n b : ℕ) (acc : List ℕ) → (b ≡ q → ⊥) → Strings.scan m (lines q (suc n) acc) b ≡ Strings.scan m (lines q n (acc ++ (q ∷ []))) b
unfolding Strings.scan on_lines
own_quote m q n b acc i =
    rw (ne_eqb b q i) (ap (λ (a : List ℕ). cond {A = Out St (List ℕ)} (line_byte b) (takes (lines q 0 a)) (breaks (NotGrammar m)))
    (sym (append_assoc acc (q ∷ []) (replicate n q ++ (b ∷ [])))))

module _ (text : List ℕ) (p quote : ℕ) (small : quote < 256) where
  pub lines_over : length text ≤ p → StepSays text (Spelling.Lines p quote) Spelt.Over
  unfolding Strings.scan on_lines line_byte
  lines_over l e u w =
      let i : over ≡ quote → ⊥ = λ x. omega arith in
      absurd (inside_whole w (NotGrammar p) (λ acc. end_break Strings.scan text p (lines quote 0 acc) (NotGrammar p) l (simp (ne_eqb over quote i))))

  pub three_by : p + 3 ≤ length text → get_or text p 0 ≡ quote → get_or text (p + 1) 0 ≡ quote → ThreeSays text p quote (eqb (get_or text (p + 2) 0) quote)
  three_by l d f = by (eqb (get_or text (p + 2) 0) quote) refl
    where
      by : (x : Bool) → eqb (get_or text (p + 2) 0) quote ≡ x → ThreeSays text p quote x
      by true e = (l, d, f, eqb-true _ _ e)
      by false e = λ h i j k. let z : ◌≡◌ {A = Bool} true false = sym (eq-eqb _ _ k) ∙ e in let y : ◌≡◌ {A = ℕ} 0 1 = cc in omega arith

  -- a quote, before two others have come
  quote_taken : (i j n : ℕ) (acc : List ℕ) → i < length text → j ≡ i + 1 → get_or text i 0 ≡ quote → (n ≡ 2 → ⊥)
      → Runs Strings.scan text (lines quote n acc) i (lines quote (suc n) acc) j
  unfolding Strings.scan on_lines
  quote_taken i j n acc l e d x = runs_by Strings.scan text (lines quote n acc) (lines quote (suc n) acc) i j l e
      (rw (byte_in text i l) (rw (eq-eqb _ _ d, ne_eqb n 2 x)))

  -- the third
  quote_last : (i j : ℕ) (acc : List ℕ) → i < length text → j ≡ i + 1 → get_or text i 0 ≡ quote → ran_at Strings.scan text (lines quote 2 acc) i ≡ ended acc j
  unfolding Strings.scan on_lines
  quote_last i j acc l e d =
      runs_by Strings.scan text (lines quote 2 acc) (done (mk quote fine whole acc)) i j l e (rw (byte_in text i l) (rw (eq-eqb _ _ d)))
      ∙ ended_by Strings.scan text (done (mk quote fine whole acc)) acc j refl

  pub lines_close : ThreeSays text p quote true → (r : Spelt)
      → StepFromSays text (8 * (length text - (p + 3))) (λ e u. NamesNext text (got_parts e) (p + 3) u) r → StepSays text (Spelling.Lines p quote) r
  lines_close h r w =
      let l = h.0 in
      spelt_from text (8 * (length text - (p + 3))) (8 * (length text - p)) (λ e u. NamesNext text (got_parts e) (p + 3) u) (Inside text (lines quote 0) p) r
      (omega arith)
      (λ e u v. inside_closes v (p + 3)
      (λ acc. quote_taken p (p + 1) 0 acc (omega arith) refl h.1 (omega arith)
      ∙ quote_taken (p + 1) (p + 2) 1 acc (omega arith) (omega arith) h.2 (omega arith)
      ∙ quote_last (p + 2) (p + 3) acc (omega arith) (omega arith) h.3)) w

  module _ (l : p < length text) (n : ThreeSays text p quote false) where
    -- a quote that is none of three
    module _ (d : get_or text p 0 ≡ quote) where
      not_third : get_or text (p + 1) 0 ≡ quote → byte_at text (p + 2) ≡ quote → ⊥
      not_third f x = by (dec_lt (p + 2) (length text))
        where
          by : Dec (p + 2 < length text) → ⊥
          by (Dec.yes h) = n (omega arith) d f (sym (byte_in text (p + 2) h) ∙ x)
          by (Dec.no h) = omega (arith, sym (byte_out text (p + 2) (omega arith)) ∙ x)

      own : (acc : List ℕ) → Runs Strings.scan text (lines quote 1 acc) (p + 1) (lines quote 0 (acc ++ (quote ∷ []))) (p + 1)
      own acc = by (dec_lt (p + 1) (length text)) (ℕ_discrete (byte_at text (p + 1)) quote)
        where
          by : Dec (p + 1 < length text) → Dec (byte_at text (p + 1) ≡ quote) → Runs Strings.scan text (lines quote 1 acc) (p + 1)
              (lines quote 0 (acc ++ (quote ∷ []))) (p + 1)
          by h (Dec.no i) = runs_alike Strings.scan text (lines quote 1 acc) (lines quote 0 (acc ++ (quote ∷ []))) (p + 1)
              (λ m. own_quote m quote 0 (byte_at text (p + 1)) acc i)
          by (Dec.no h) (Dec.yes x) = absurd (omega (arith, sym (byte_out text (p + 1) (omega arith)) ∙ x))
          by (Dec.yes h) (Dec.yes x) =
              let f : get_or text (p + 1) 0 ≡ quote = sym (byte_in text (p + 1) h) ∙ x in
              quote_taken (p + 1) (p + 2) 1 acc h (omega arith) f (omega arith)
              ∙ runs_alike Strings.scan text (lines quote 2 acc) (lines quote 1 (acc ++ (quote ∷ []))) (p + 2)
              (λ m. own_quote m quote 1 (byte_at text (p + 2)) acc (not_third f))
              ∙ sym (quote_taken (p + 1) (p + 2) 0 (acc ++ (quote ∷ [])) h (omega arith) f (omega arith))

    plain_on : (get_or text p 0 ≡ quote → ⊥) → (acc : List ℕ) (x : Bool) → line_byte (get_or text p 0) ≡ x
        → Strings.scan p (lines quote 0 acc) (get_or text p 0) ≡ cond x (takes (lines quote 0 (acc ++ (get_or text p 0 ∷ [])))) (breaks (NotGrammar p))
    unfolding Strings.scan on_lines
    plain_on d acc x e = rw (ne_eqb _ _ d, e)

    pub lines_byte : StepSays text (Spelling.Lines p quote) (Spelt.Byte (get_or text p 0) (Spelling.Lines (p + 1) quote))
    lines_byte = (
      record { within = omega arith; falls = omega arith },
      λ e u w.
          by e u w (ℕ_discrete (get_or text p 0) quote) (line_byte (get_or text p 0)) refl,
    )
      where
        by : (e u : List ℕ) → Inside text (lines quote 0) p e u → Dec (get_or text p 0 ≡ quote) → (x : Bool) → line_byte (get_or text p 0) ≡ x
            → Inside text (lines quote 0) (p + 1) (e ++ (get_or text p 0 ∷ [])) u
        by e u w (Dec.yes d) x y =
            inside_more w {state' = lines quote 0} (p + 1) (get_or text p 0 ∷ [])
            (λ acc. quote_taken p (p + 1) 0 acc l refl d (omega arith) ∙ own d acc
            ∙ ap (λ (b : ℕ). ran_at Strings.scan text (lines quote 0 (acc ++ (b ∷ []))) (p + 1)) (sym d))
        by e u w (Dec.no d) true y =
            inside_more w {state' = lines quote 0} (p + 1) (get_or text p 0 ∷ [])
            (λ acc. run_take Strings.scan text p (lines quote 0 acc) (lines quote 0 (acc ++ (get_or text p 0 ∷ []))) l (plain_on d acc true y))
        by e u w (Dec.no d) false y = absurd (inside_whole w (NotGrammar p) (λ acc.
            run_break Strings.scan text p (lines quote 0 acc) (NotGrammar p) l (plain_on d acc false y)))

-- ---- in an identifier

module _ (text : List ℕ) (p : ℕ) where
  name_closed : (e u v : List ℕ) (q : ℕ) → ran_at Names.scan text (Names.name e) p ≡ ended v q → Naming text p e u → NamesNext text (got_name v) q u
  name_closed e u v q g w =
      let h = w.runs in
      let x : w.value ≡ v = cc in
      let y : w.close ≡ q = cc in
      subst (λ (n : ℕ). NamesNext text (got_name v) n u) y (subst (λ (a : List ℕ). NamesNext text (got_name a) w.close u) x w.names)

  pub name_over : length text ≤ p → StepSays text (Spelling.Name p) Spelt.Over
  unfolding Names.scan Names.on_name Names.class_of
  name_over l e u w = name_is text u e p (name_closed e u e p (end_stop Names.scan text p (Names.name e) e l refl) w)

  module _ (l : p < length text) where
    pub name_stops : Names.class_of (get_or text p 0) ≡ Names.neither → StepSays text (Spelling.Name p) Spelt.Over
    unfolding Names.scan Names.on_name
    name_stops c e u w = name_is text u e p (name_closed e u e p (run_stop Names.scan text p (Names.name e) e l (rw c)) w)

    name_on : ((e : List ℕ) → Names.scan p (Names.name e) (get_or text p 0) ≡ takes (Names.name (e ++ (get_or text p 0 ∷ []))))
        → StepSays text (Spelling.Name p) (Spelt.Byte (get_or text p 0) (Spelling.Name (p + 1)))
    name_on g = (
      record { within = omega arith; falls = omega arith },
      λ e u w. record {
        value = w.value;
        close = w.close;
        runs = sym (run_take Names.scan text p (Names.name e) (Names.name (e ++ (get_or text p 0 ∷ []))) l (g e)) ∙ w.runs;
        names = w.names;
      },
    )

    pub name_letter : Names.class_of (get_or text p 0) ≡ Names.letter → StepSays text (Spelling.Name p) (Spelt.Byte (get_or text p 0) (Spelling.Name (p + 1)))
    unfolding Names.scan Names.on_name
    name_letter c = name_on (λ e. rw c)

    pub name_figure : Names.class_of (get_or text p 0) ≡ Names.figure → StepSays text (Spelling.Name p) (Spelt.Byte (get_or text p 0) (Spelling.Name (p + 1)))
    unfolding Names.scan Names.on_name
    name_figure c = name_on (λ e. rw c)

-- ---- the key at a place

module _ (text : List ℕ) (p : ℕ) (l : p < length text) where
  part_at : class_of (get_or text p 0) ≡ quote_c → (u : List ℕ) → KeyIs text p u → Part text begin p [] u
  part_at q u k = part_of text p [] u (key_part text p u l q k.0)

  pub key_opens : (get_or text p 0 ≡ ch "\"") ⊎ (get_or text p 0 ≡ ch "'") → (u : List ℕ) → KeyIs text p u → Part text begin p [] u
  key_opens (inl e) u k = part_at (rw e) u k
  key_opens (inr e) u k = part_at (rw e) u k

  module _ (i : get_or text p 0 ≡ ch "\"" → ⊥) (j : get_or text p 0 ≡ ch "'" → ⊥) (u : List ℕ) (k : KeyIs text p u) where
    pub name_ends : Ends text (ran_at Names.scan text Names.begin p) (λ v. got_name v) u
    name_ends = key_name text p u l k.1 (not_quote (get_or text p 0) i j) k.0

    -- it begins with a letter
    pub first_letter : Names.class_of (get_or text p 0) ≡ Names.letter
    unfolding Names.scan Names.on_start
    first_letter = by (Names.class_of (get_or text p 0)) refl
      where
        not_broken : ran_at Names.scan text Names.begin p ≡ broke (NotGrammar p) → ⊥
        not_broken e = let h = name_ends.runs in let z : ◌≡◌ {A = ℕ} 0 1 = cc in omega arith

        by : (c : Names.Class) → Names.class_of (get_or text p 0) ≡ c → Names.class_of (get_or text p 0) ≡ Names.letter
        by Names.letter e = e
        by Names.figure e = absurd (not_broken (run_break Names.scan text p Names.begin (NotGrammar p) l (rw e)))
        by Names.neither e = absurd (not_broken (run_break Names.scan text p Names.begin (NotGrammar p) l (rw e)))

    pub key_names : Naming text p [] u
    unfolding Names.scan Names.on_start Names.on_name
    key_names =
        let e = first_letter in
        record {
          value = name_ends.value;
          close = name_ends.close;
          runs = runs_alike Names.scan text (Names.name []) Names.begin p (λ n. rw (byte_in text p l) (rw e)) ∙ name_ends.runs;
          names = name_ends.names;
        }

-- ---- steps until a byte comes

pub record Stepping (text : List ℕ) (from s : Spelling) : Type 0 where
  pub within : InText text s
  pub falls : to_come text s ≤ to_come text from
  pub goes : (e u : List ℕ) → Spells text from e u → Spells text s e u

module _ (text : List ℕ) (from : Spelling) where
  pub not_stepped : InText text from → Stepping text from from
  not_stepped h = record { within = h; falls = omega arith; goes = λ e u w. w }

  module _ (s : Spelling) (v : Stepping text from s) where
    pub stepped_over : StepSays text s Spelt.Over → LetterSays text from None
    stepped_over w e u h = w e u (v.goes e u h)

    pub stepped_byte : (b : ℕ) (t : Spelling) → StepSays text s (Spelt.Byte b t) → LetterSays text from (Some (b, t))
    stepped_byte b t w = (further_more (to_come text from) v.falls w.0, λ e u h. w.1 e u (v.goes e u h))

    pub stepped_on : (t : Spelling) → StepSays text s (Spelt.On t) → Stepping text from t
    stepped_on t w = record { within = w.0.within; falls = omega (arith, v.falls, w.0.falls); goes = λ e u h. w.1 e u (v.goes e u h) }
