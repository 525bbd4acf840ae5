-- Brackets, commas and colons. Assumes nothing.
use mathlib.Core.Path.{◌≡◌, refl, sym, ap, ◌∙◌}
use mathlib.Core.List.{List, [], ◌∷◌}
use mathlib.Core.Option.{some}
use Prim.Native.Nat.{ℕ, suc, ◌+◌, ◌≤◌, ◌<◌}
use native.Mathlib.Omega.{arith}
use lib.ListN.{length, drop, get_or}
use lib.Seq.{sets}
use Rattle.meaning.specs.declared.Record.{Record}
use Rattle.meaning.specs.declared.Refusal.{Refusal}
use Rattle.meaning.specs.declared.Refusal.TheVariants.{NotGrammar, TooDeep}
use Rattle.meaning.specs.Letters.{ch}
use Rattle.meaning.specs.Meaning.{Meaning, Meanings, Members}
use Rattle.grammar.specs.Values.{Inside, elements, members}
use Rattle.machine.specs.Machine.{want, want_key, got, value, key, base, Frame, inside, pair, at, on_got}
use Rattle.machine.specs.Machine.{odd, wanted, shut, square, curly, bare_of, Class, class_of, blank_c}
use Rattle.machine.specs.Machine.{hash_c, slash_c, comma_c, colon_c, plus_c, quote_c, dollar_c, letter_n, letter_t, letter_f, letter_c}
use Rattle.machine.specs.Machine.{other_c, open_c, close_c}
use Rattle.machine.specs.Heard as Heard
use Rattle.machine.specs.Heard.{starts, names, Told, after, tell, key_heard, key_at}
use Rattle.tape.specs.Between.Putting.{put_record}
use Rattle.reader.specs.Between.Scanning.{Goes, Hears, Tells, Refuses, Shut}
use Rattle.reader.specs.Between.Layout.{LayoutEnds, Breaks}
use Rattle.reader.specs.Between.Joined.{Keyed}
use Rattle.reader.specs.Between.Repeat.{AtKey, Tabled, NoteSays}
use Rattle.reader.specs.Between.Cursor.{Unwanted, Ready, AtMember, Moved, Opened}
use Rattle.reader.specs.Between.Cursor.{closer, closing_of, within, Begins, AheadSays, Adds, AfterSays, ColonSays}
use Rattle.reader.specs.Between.Cursor.{MemberSays, MemberBegins, Seen}
use Rattle.reader.specs.declared.cursor.Cursor.{Cursor}
use Rattle.reader.specs.declared.cursor.Ahead.{Ahead}
use Rattle.reader.specs.declared.cursor.After.{After}
use Rattle.std.specs.Prelude.{Ok, Err}
use Rattle.reader.proofs.ScanningLaws.{onto, go, go_hearing, stop, halt, then_refused, faulted}
use Rattle.machine.proofs.Classes.{ClassIs, class_is_lem}
use Rattle.once.proofs.KeepingLaws.{keeps_further, goes_further}
use Rattle.reader.proofs.CursorTableLaws.{seen_tabled, seen_further}

-- further on, with the same counts
abbrev pub on_to : Cursor → ℕ → Cursor
on_to c q = record { at = q; records = c.records; stored = c.stored }

-- ---- where a value is wanted

module _ (text : List ℕ) (c : Cursor) where
  pub none_wanted : length text ≤ c.at → Unwanted text c.at (NotGrammar c.at)
  none_wanted h d k s = halt (at (base want) d k) text c.at (NotGrammar c.at) h refl

  module _ (h : c.at < length text) where
    moved_one : Moved text c (on_to c (c.at + 1))
    moved_one = record { past = omega arith; within = omega arith; records = refl; stored = refl }

    pub opens_array : get_or text c.at 0 ≡ ch "[" → Opened text c square (on_to c (c.at + 1))
    opens_array e = record {
      opens = λ d k. go (at (base want) (suc d) k) (at (base (wanted (bare_of square))) d (inside (bare_of square) ∷ k)) text c.at h (rw e);
      deep = λ k. stop (at (base want) 0 k) text c.at (TooDeep c.at) h (rw e);
      moved = moved_one;
    }

    pub opens_object : get_or text c.at 0 ≡ ch "{" → Opened text c curly (on_to c (c.at + 1))
    opens_object e = record {
      opens = λ d k. go_hearing (at (base want) (suc d) k) (at (base (wanted (bare_of curly))) d (inside (bare_of curly) ∷ k)) text c.at
          (Heard.opens ∷ []) h (rw e);
      deep = λ k. stop (at (base want) 0 k) text c.at (TooDeep c.at) h (rw e);
      moved = moved_one;
    }

-- ---- in a container

module _ (text : List ℕ) (c : Cursor) (closing : ℕ) where
  pub ahead_broken : (q : ℕ) → Breaks text base c.at q → AheadSays text c closing (Err (NotGrammar q))
  ahead_broken q w y e d k = faulted (w (wanted y) d (inside y ∷ k))

  module _ (q : ℕ) (v : LayoutEnds text c.at q) where
    moved_past : q < length text → Moved text c (on_to c (q + 1))
    moved_past h = record { past = omega (arith, v.onward.behind); within = omega arith; records = refl; stored = refl }

    ahead_over : length text ≤ q → (y : Inside) (d : ℕ) (k : List Frame) → Refuses text (within y d k) q (NotGrammar q)
    ahead_over h (elements x) d k = halt (within (elements x) d k) text q (NotGrammar q) h refl
    ahead_over h (members x) d k = halt (within (members x) d k) text q (NotGrammar q) h refl

    pub ahead_end : length text ≤ q → AheadSays text c closing (Err (NotGrammar q))
    ahead_end h y e d k = then_refused (v.goes (wanted y) d (inside y ∷ k)) (ahead_over h y d k)

    module _ (h : q < length text) where
      shuts : (y : Inside) → get_or text q 0 ≡ closer y → (d : ℕ) (k : List Frame)
          → Tells text (within y d k) q (closing_of y) (at (base (got (value (shut y)))) (suc d) k) (q + 1)
      shuts (elements x) e d k = go (within (elements x) d k) (at (base (got (value (shut (elements x))))) (suc d) k) text q h (rw e)
      shuts (members x) e d k = go_hearing (within (members x) d k) (at (base (got (value (shut (members x))))) (suc d) k) text q (Heard.shuts ∷ []) h (rw e)

      pub ahead_close : get_or text q 0 ≡ closing → AheadSays text c closing (Ok (Ahead.Close (on_to c (q + 1))))
      ahead_close e = ((λ y f d k. v.goes (wanted y) d (inside y ∷ k) ∙ shuts y (e ∙ sym f) d k), moved_past h)

      pub ahead_more : (get_or text q 0 ≡ closing → ⊥) → AheadSays text c closing (Ok (Ahead.More (on_to c q)))
      ahead_more n = record { goes = v.goes; bare = v.bare; behind = v.onward.behind; inside = h; other = n; records = refl; stored = refl }

-- ---- after an element or a member

module _ (p d : ℕ) (k : List Frame) (m : Meaning) where
  after_class : (f : Frame) (closing : ℕ) (y : Meaning → Inside) → Adds f closing y → (b : ℕ) (c : Class) → ClassIs b c
      → (c ≡ blank_c → ⊥) → (c ≡ hash_c → ⊥) → (c ≡ slash_c → ⊥) → (b ≡ ch "," → ⊥) → (b ≡ closing → ⊥)
      → on_got p d (f ∷ k) (value m) c ≡ odd p
  after_class f closing y a b blank_c x i j l n o = absurd (i refl)
  after_class f closing y a b hash_c x i j l n o = absurd (j refl)
  after_class f closing y a b slash_c x i j l n o = absurd (l refl)
  after_class f closing y a b comma_c x i j l n o = absurd (n x)
  after_class f closing y a b colon_c x i j l n o = refl
  after_class f closing y a b plus_c x i j l n o = refl
  after_class f closing y a b quote_c x i j l n o = refl
  after_class f closing y a b dollar_c x i j l n o = refl
  after_class f closing y a b letter_n x i j l n o = refl
  after_class f closing y a b letter_t x i j l n o = refl
  after_class f closing y a b letter_f x i j l n o = refl
  after_class f closing y a b letter_c x i j l n o = refl
  after_class f closing y a b other_c x i j l n o = refl
  after_class f closing y a b (open_c z) x i j l n o = refl
  after_class f closing y Adds.element b (close_c square) x i j l n o = absurd (o x)
  after_class f closing y Adds.element b (close_c curly) x i j l n o = refl
  after_class f closing y Adds.member b (close_c square) x i j l n o = refl
  after_class f closing y Adds.member b (close_c curly) x i j l n o = absurd (o x)

commas : (text : List ℕ) (q : ℕ) → q < length text → get_or text q 0 ≡ ch "," → (closing : ℕ) (f : Frame) (y : Meaning → Inside)
    → Adds f closing y → (m : Meaning) (d : ℕ) (k : List Frame)
    → Goes text (at (base (got (value m))) d (f ∷ k)) q (within (y m) d k) (q + 1)
commas text q h e closing f y (Adds.element {x = x}) m d k =
    go (at (base (got (value m))) d (inside (elements x) ∷ k)) (within (elements (Meanings.more x m)) d k) text q h (rw e)
commas text q h e closing f y (Adds.member {x = x} {u = u}) m d k =
    go (at (base (got (value m))) d (pair x u ∷ k)) (within (members (Members.member x u m)) d k) text q h (rw e)

closes : (text : List ℕ) (q : ℕ) → q < length text → (closing : ℕ) (f : Frame) (y : Meaning → Inside) → Adds f closing y
    → get_or text q 0 ≡ closing → (m : Meaning) (d : ℕ) (k : List Frame)
    → Tells text (at (base (got (value m))) d (f ∷ k)) q (closing_of (y m)) (at (base (got (value (shut (y m))))) (suc d) k) (q + 1)
closes text q h closing f y (Adds.element {x = x}) e m d k =
    go (at (base (got (value m))) d (inside (elements x) ∷ k))
    (at (base (got (value (shut (elements (Meanings.more x m)))))) (suc d) k) text q h (rw e)
closes text q h closing f y (Adds.member {x = x} {u = u}) e m d k =
    go_hearing (at (base (got (value m))) d (pair x u ∷ k)) (at (base (got (value (shut (members (Members.member x u m)))))) (suc d) k) text q
    (Heard.shuts ∷ []) h (rw e)

module _ (text : List ℕ) (c : Cursor) (closing : ℕ) where
  pub after_broken : (q : ℕ) → Breaks text base c.at q → AfterSays text c closing (Err (NotGrammar q))
  after_broken q w f y a m d k = faulted (w (got (value m)) d (f ∷ k))

  module _ (q : ℕ) (v : LayoutEnds text c.at q) where
    pub after_end : length text ≤ q → AfterSays text c closing (Err (NotGrammar q))
    after_end h f y a m d k =
        then_refused (v.goes (got (value m)) d (f ∷ k)) (halt (at (base (got (value m))) d (f ∷ k)) text q (NotGrammar q) h refl)

    module _ (h : q < length text) where
      pub after_comma : get_or text q 0 ≡ ch "," → AfterSays text c closing (Ok (After.Comma (on_to c (q + 1))))
      after_comma e = ((λ f y a m d k. v.goes (got (value m)) d (f ∷ k) ∙ commas text q h e closing f y a m d k), moved_past text c closing q v h)

      pub after_close : get_or text q 0 ≡ closing → AfterSays text c closing (Ok (After.Close (on_to c (q + 1))))
      after_close e = ((λ f y a m d k. v.goes (got (value m)) d (f ∷ k) ∙ closes text q h closing f y a e m d k), moved_past text c closing q v h)

      pub after_wrong : (get_or text q 0 ≡ ch "," → ⊥) → (get_or text q 0 ≡ closing → ⊥) → AfterSays text c closing (Err (NotGrammar q))
      after_wrong n o f y a m d k = then_refused (v.goes (got (value m)) d (f ∷ k)) (stop (at (base (got (value m))) d (f ∷ k)) text q (NotGrammar q) h
          (after_class q d k m f closing y a (get_or text q 0) (class_of (get_or text q 0)) (class_is_lem (get_or text q 0))
          (v.bare.no_blank h) (v.bare.no_hash h) (v.bare.no_slash h) n o))

-- ---- after a key

module _ (p d : ℕ) (k : List Frame) (x : Members) (u : List ℕ) where
  colon_class : (b : ℕ) (c : Class) → ClassIs b c → (c ≡ blank_c → ⊥) → (c ≡ hash_c → ⊥) → (c ≡ slash_c → ⊥) → (b ≡ ch ":" → ⊥)
      → on_got p d (inside (members x) ∷ k) (key u) c ≡ odd p
  colon_class b blank_c z i j l n = absurd (i refl)
  colon_class b hash_c z i j l n = absurd (j refl)
  colon_class b slash_c z i j l n = absurd (l refl)
  colon_class b colon_c z i j l n = absurd (n z)
  colon_class b comma_c z i j l n = refl
  colon_class b plus_c z i j l n = refl
  colon_class b quote_c z i j l n = refl
  colon_class b dollar_c z i j l n = refl
  colon_class b letter_n z i j l n = refl
  colon_class b letter_t z i j l n = refl
  colon_class b letter_f z i j l n = refl
  colon_class b letter_c z i j l n = refl
  colon_class b other_c z i j l n = refl
  colon_class b (open_c y) z i j l n = refl
  colon_class b (close_c y) z i j l n = refl

module _ (text : List ℕ) (c : Cursor) where
  pub colon_broken : (q : ℕ) → Breaks text base c.at q → ColonSays text c (Err (NotGrammar q))
  colon_broken q w x u d k = faulted (w (got (key u)) d (inside (members x) ∷ k))

  module _ (q : ℕ) (v : LayoutEnds text c.at q) where
    pub colon_end : length text ≤ q → ColonSays text c (Err (NotGrammar q))
    colon_end h x u d k =
        then_refused (v.goes (got (key u)) d (inside (members x) ∷ k))
        (halt (at (base (got (key u))) d (inside (members x) ∷ k)) text q (NotGrammar q) h refl)

    module _ (h : q < length text) where
      pub colon_wrong : (get_or text q 0 ≡ ch ":" → ⊥) → ColonSays text c (Err (NotGrammar q))
      colon_wrong n x u d k =
          then_refused (v.goes (got (key u)) d (inside (members x) ∷ k))
          (stop (at (base (got (key u))) d (inside (members x) ∷ k)) text q (NotGrammar q) h
          (colon_class q d k x u (get_or text q 0) (class_of (get_or text q 0)) (class_is_lem (get_or text q 0))
          (v.bare.no_blank h) (v.bare.no_hash h) (v.bare.no_slash h) n))

      module _ (e : get_or text q 0 ≡ ch ":") where
        coloned : (x : Members) (u : List ℕ) (d : ℕ) (k : List Frame)
            → Hears text (at (base (got (key u))) d (inside (members x) ∷ k)) c.at (names u ∷ []) (at (base want) d (pair x u ∷ k)) (q + 1)
        coloned x u d k =
            v.goes (got (key u)) d (inside (members x) ∷ k) ∙ go_hearing (at (base (got (key u))) d (inside (members x) ∷ k))
            (at (base want) d (pair x u ∷ k)) text q (names u ∷ []) h (rw e)

        named_there : (u : List ℕ) (d : ℕ) (k : List Frame)
            → key_heard (tell c.at (at (base (got (key u))) d k) (drop c.at text)).heard ≡ some u
        named_there u d k =
            ap (λ (t : Told). key_heard t.heard) (v.goes (got (key u)) d k ∙ onto (at (base (got (key u))) d k) text q h)
            ∙ rw e

        pub colon_breaks : (r : ℕ) → Breaks text base (q + 1) r → ColonSays text c (Err (NotGrammar r))
        colon_breaks r w x u d k = then_refused (coloned x u d k) (faulted (w want d (pair x u ∷ k)))

        pub colon_key : (r : ℕ) → LayoutEnds text (q + 1) r → ColonSays text c (Ok (on_to c r))
        colon_key r w =
            record {
              goes = λ x u d k. coloned x u d k ∙ ap (after (names u ∷ [])) (w.goes want d (pair x u ∷ k));
              names_it = named_there;
              bare = w.bare;
              moved = record { past = omega (arith, v.onward.behind, w.onward.behind); within = w.onward.within; records = refl; stored = refl };
            }

-- ---- a key and its colon

module _ (text : List ℕ) (c : Cursor) (entry : List ℕ) where
  member_shut : AtMember text c → (x : Members) (d : ℕ) (k : List Frame) → Shut text c.at d (inside (members x) ∷ k)
  member_shut v x d k h square e = refl
  member_shut v x d k h curly e = absurd (v.other (closing_is (get_or text c.at 0) (class_of (get_or text c.at 0)) (class_is_lem (get_or text c.at 0)) e))
    where
      closing_is : (b : ℕ) (z : Class) → ClassIs b z → z ≡ close_c curly → b ≡ ch "}"
      closing_is b z y f = rw f at y

  pub member_refused : AtMember text c → (why : Refusal)
      → ((d : ℕ) (k : List Frame) → Shut text c.at d k → Refuses text (at (base want_key) d k) c.at why)
      → (x : Members) (d : ℕ) (k : List Frame) → Refuses text (within (members x) d k) c.at why
  member_refused v why w x d k = w d (inside (members x) ∷ k) (member_shut v x d k)

  abbrev pub keyed_at : ℕ → ℕ → Cursor
  keyed_at q n = record { at = q; records = c.records + 1; stored = c.stored + n }

  pub member_says : (exit : List ℕ) (q n : ℕ) → Keyed text c.at c.stored entry exit q n → (v : Cursor)
      → ColonSays text (keyed_at q n) (Ok v) → MemberSays text c entry exit (Ok (n, v))
  unfolding key_at
  member_says exit q n w v s =
      let m = s.moved in
      let o = w.meant in
      record {
        u = w.u;
        goes = λ x d k. w.runs d (inside (members x) ∷ k) ∙ ap (after (starts c.at ∷ [])) (s.goes x w.u d k);
        is = ap (λ (t : Told). key_heard t.heard) (w.runs 0 []) ∙ s.names_it w.u 0 [];
        behind = omega arith;
        ahead = omega (arith, m.past, o.past);
        counted = o.counted;
        filled = o.filled;
        bare = s.bare;
        records = m.records;
        stored = omega (arith, m.stored, o.counted);
        room = omega (arith, m.past, o.room);
        past = omega (arith, m.past, o.past);
        within = m.within;
      }

  pub member_unsaid : (exit : List ℕ) (q n : ℕ) → Keyed text c.at c.stored entry exit q n → (why : Refusal)
      → ColonSays text (keyed_at q n) (Err why) → MemberSays text c entry exit (Err why)
  member_unsaid exit q n w why s = λ x d k. then_refused (w.runs d (inside (members x) ∷ k)) (s x w.u d k)

-- ---- in an object

module _ (text : List ℕ) (c n : Cursor) (h : Begins text c (ch "}") n) where
  pub member_at : Ready text c → AtMember text n
  member_at r = record {
    ready = record {
      within = omega (arith, h.inside);
      records = omega (arith, h.records, r.records, h.behind);
      stored = omega (arith, h.stored, r.stored, h.behind);
      short = r.short;
    };
    bare = h.bare;
    inside = h.inside;
    other = h.other;
  }

  pub member_none : (why : Refusal) → ((x : Members) (d : ℕ) (k : List Frame) → Refuses text (within (members x) d k) n.at why)
      → AheadSays text c (ch "}") (Err why)
  member_none why w (elements x) e d k = absurd (omega arith)
  member_none why w (members x) e d k = then_refused (h.goes want_key d (inside (members x) ∷ k)) (w x d k)

  pub member_key : (entry exit : List ℕ) (size : ℕ) (v : Cursor) → Ready text c → MemberSays text n entry exit (Ok (size, v)) → AtKey text n.at
  member_key entry exit size v r w = record { u = w.u; is = (w.is, h.bare); inside = h.inside; short = r.short }

  pub member_tabled : (seen : List ℕ) → Ready text c → Seen text seen c.at → Tabled text seen n.at
  member_tabled seen r s = seen_tabled text (seen_further text n.at h.behind (omega (arith, h.inside, r.short)) s)

  pub member_begins : (tape tape' entry exit seen seen' : List ℕ) (size : ℕ) (v : Cursor) → Ready text c → MemberSays text n entry exit (Ok (size, v))
      → tape' ≡ put_record tape c.records (Record.Key size c.stored) → NoteSays text seen seen' n.at
      → MemberBegins text c tape tape' entry exit seen seen' v
  member_begins tape tape' entry exit seen seen' size v r w e g = record {
    size = size;
    first = n.at;
    key_is = record {
      u = w.u;
      is = w.is;
      behind = h.behind;
      ahead = w.ahead;
      goes = λ x d k. h.goes want_key d (inside (members x) ∷ k) ∙ w.goes x d k;
      counted = w.counted;
      filled = w.filled ∙ ap (λ (i : ℕ). sets entry i w.u) h.stored;
      bare = w.bare;
      records = omega (arith, w.records, h.records);
      stored = omega (arith, w.stored, h.stored);
      room = omega (arith, w.room, h.behind);
      past = omega (arith, w.past, h.behind);
      within = w.within;
    };
    taped = e;
    noted = λ f s k i.
        goes_further (g.leads f s (keeps_further k n.at h.behind (omega (arith, h.inside, r.short))) i w.u (w.is, h.bare))
        v.at (omega (arith, w.ahead)) (omega (arith, w.within, r.short));
  }
