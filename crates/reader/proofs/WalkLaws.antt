-- One walk over a text: what its end says, and what the walk makes of it. Assumes nothing.
use mathlib.Core.Path.{◌≡◌, refl, sym, ap, ◌∙◌}
use mathlib.Core.List.{List, [], append-nil}
use Prim.Native.Nat.{ℕ, ◌≤◌, ◌<◌}
use native.Mathlib.Omega.{arith}
use lib.ListN.{length, get_or}
use Rattle.meaning.specs.declared.Refusal.{Refusal}
use Rattle.meaning.specs.declared.Refusal.TheVariants.{NotGrammar}
use Rattle.meaning.specs.Limits.{text_limit, depth_limit}
use Rattle.meaning.specs.Meaning.{Meaning}
use Rattle.meaning.specs.Tape.{tape_of}
use Rattle.machine.specs.Machine.{want, got, value, base, at, fail, Class, class_of, on_got, Ok, No, reading}
use Rattle.machine.specs.Machine.{blank_c, hash_c, slash_c, comma_c, colon_c, plus_c, quote_c, dollar_c, letter_n, letter_t, letter_f, letter_c, other_c}
use Rattle.machine.specs.Machine.{open_c, close_c}
use Rattle.machine.specs.Heard.{Heard, Told, tell, telling, heard_of}
use Rattle.reader.specs.Between.Scanning.{Tells, Bare, Shut}
use Rattle.reader.specs.Between.Layout.{Breaks, LayoutEnds}
use Rattle.reader.specs.Between.Cursor.{AtValue, Seen, Took, Left, wants, keeping}
use Rattle.reader.specs.Between.Walk.{Finishes, EndedSays, WalkSays}
use Rattle.reader.specs.declared.cursor.Cursor.{Cursor}
use Rattle.std.specs.Prelude.{Result}
use Rattle.reader.specs.Answers.{Answer, counts}
use Rattle.reader.proofs.ScanningLaws.{stop, at_end, then_refused, faulted, then_goes}
use Rattle.machine.proofs.Heard.{verdict_is}
use Rattle.once.proofs.KeepingLaws.{keeps_further, goes_further}
use Rattle.reader.proofs.CursorTableLaws.{seen_further}

-- ---- after the value

-- no byte of layout
record Solid (c : Class) : Type 0 where
  no_blank : c ≡ blank_c → ⊥
  no_hash : c ≡ hash_c → ⊥
  no_slash : c ≡ slash_c → ⊥

solid : {text : List ℕ} {q : ℕ} → Bare text q → q < length text → Solid (class_of (get_or text q 0))
solid v h = record { no_blank = v.no_blank h; no_hash = v.no_hash h; no_slash = v.no_slash h }

-- after the whole text's value nothing but layout may stand
nothing_more : (c : Class) (m : Meaning) (q d : ℕ) → Solid c → on_got q d [] (value m) c ≡ fail (NotGrammar q)
nothing_more blank_c m q d s = absurd (s.no_blank refl)
nothing_more hash_c m q d s = absurd (s.no_hash refl)
nothing_more slash_c m q d s = absurd (s.no_slash refl)
nothing_more comma_c m q d s = refl
nothing_more (close_c z) m q d s = refl
nothing_more colon_c m q d s = refl
nothing_more plus_c m q d s = refl
nothing_more (open_c z) m q d s = refl
nothing_more quote_c m q d s = refl
nothing_more dollar_c m q d s = refl
nothing_more letter_n m q d s = refl
nothing_more letter_t m q d s = refl
nothing_more letter_f m q d s = refl
nothing_more letter_c m q d s = refl
nothing_more other_c m q d s = refl

module _ (text : List ℕ) (c : Cursor) where
  pub ended_breaks : (r : ℕ) → Breaks text base c.at r → EndedSays text c (Result.Err (NotGrammar r))
  ended_breaks r b m d = faulted (b (got (value m)) d [])

  module _ (e : ℕ) (l : LayoutEnds text c.at e) where
    pub ended_more : e < length text → EndedSays text c (Result.Err (NotGrammar e))
    ended_more h m d =
        let fails = nothing_more (class_of (get_or text e 0)) m e d (solid l.bare h) in
        then_refused (l.goes (got (value m)) d []) (stop (at (base (got (value m))) d []) text e (NotGrammar e) h fails)

    pub ended_done : length text ≤ e → EndedSays text c (counts c.records c.stored)
    ended_done h = (λ m d. l.goes (got (value m)) d [] ∙ at_end (at (base (got (value m))) d []) text e h, refl, refl)

-- ---- the walk

pub walk_breaks : (text : List ℕ) (r : ℕ) → Breaks text base 0 r → reading text ≡ No (NotGrammar r)
unfolding reading depth_limit
walk_breaks text r w = sym (verdict_is text 0 (at (base want) depth_limit [])) ∙ faulted (w want depth_limit [])

abbrev pub first_at : ℕ → Cursor
first_at q = record { at = q; records = 0; stored = 0 }

module _ (text : List ℕ) (q : ℕ) (v : LayoutEnds text 0 q) where
  pub walk_at : length text ≤ text_limit → AtValue text (first_at q)
  walk_at h = record {
    ready = record { within = v.onward.within; records = omega arith; stored = omega arith; short = h };
    bare = v.bare;
  }

  pub walk_seen : (seen : List ℕ) → length text ≤ text_limit → Seen text seen 0 → Seen text seen q
  walk_seen seen h s = seen_further text q (omega arith) (omega (arith, v.onward.within)) s

  pub walk_refused : (why : Refusal) → Left text (wants 64) (λ k. Shut text q 64 k) q why → reading text ≡ No why
  unfolding reading depth_limit
  walk_refused why w = sym (verdict_is text 0 (at (base want) 64 [])) ∙ then_refused (v.goes want 64 []) (w [] (λ h z e. refl))

  module _ (tape tape' store store' seen seen' : List ℕ) (n : Cursor) (h : length text ≤ text_limit)
      (w : Took text (wants 64) 64 [] (keeping text seen (first_at q)) (first_at q) tape tape' store store' seen' n) where
    comes : Tells text (at (base want) 64 []) 0 w.keys (at (base (got (value w.m))) 64 []) n.at
    comes = v.goes want 64 [] ∙ w.runs []

    told : Finishes text n.at → tell 0 (at (base want) 64 []) text ≡ record { verdict = Ok w.m; heard = heard_of w.keys }
    told e =
        then_goes w.keys comes (e w.m 64)
        ∙ ap (λ (hs : List Heard). record { verdict = Ok w.m; heard = hs }) (append-nil (heard_of w.keys))

    -- the walk says what its end says
    pub walk_ended : (a : Answer) → EndedSays text n a → WalkSays text tape tape' store store' seen seen' a
    unfolding reading telling depth_limit tape_of
    walk_ended (Result.Err why) e = sym (verdict_is text 0 (at (base want) 64 [])) ∙ then_refused comes (e w.m 64)
    walk_ended (Result.Ok a) (e, er, es) = (
      w.m,
      record {
        keys = w.keys;
        told = told e;
        reads = sym (verdict_is text 0 (at (base want) 64 [])) ∙ ap (λ (t : Told). t.verdict) (told e);
        noted = λ f s k. goes_further (w.noted f s (keeps_further k q (omega arith) (omega (arith, v.onward.within)))) (length text)
            w.within (omega arith);
        taped = λ t. w.taped (omega (arith, w.recorded));
        filled = w.filled;
        few = omega (arith, w.few, w.recorded, w.within);
        short = omega (arith, w.short, w.stored, w.within);
      },
      omega (arith, w.recorded, er),
      omega (arith, w.stored, es),
    )
