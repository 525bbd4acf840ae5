-- Which bytes leave the check where it stands, and that they do. Assumes nothing.
use Prim.Native.Nat.{ℕ, ◌+◌, ◌-◌, ◌≤◌, ◌<◌, ◌%◌}
use mathlib.Core.Path.{◌≡◌, refl, sym, ap, ◌∙◌, subst}
use mathlib.Core.Bool.{Bool, true, false, cond}
use mathlib.Core.List.{List}
use mathlib.Core.Logic.{◌⊎◌, inl, inr}
use native.Mathlib.Omega.{arith}
use lib.Dec.{eqb, leb}
use lib.ListN.{length, get_or}
use borrow.Author.Tests.{leb-true, eqb-true, eqb-false, eq-eqb, ne_eqb, lt-ltb}
use Rattle.meaning.specs.Letters.{ch}
use Rattle.machine.specs.Strings.{line_byte, plain_byte}
use Rattle.machine.specs.Machine.{class_of, blank_c, Note, note_of, line_end, star_n, slash_n, plain_n, control_n}
use Rattle.machine.proofs.Layouts.{NoteIs, note_is_lem}
use Rattle.arriving.specs.declared.states.Due as DueOf
use Rattle.arriving.specs.declared.states.Due.TheVariants as Due
use Rattle.arriving.specs.declared.states.Mode as ModeOf
use Rattle.arriving.specs.declared.states.Mode.TheVariants as Mode
use Rattle.arriving.specs.declared.states.Here.{Here}
use Rattle.arriving.specs.declared.leaps.Run as RunOf
use Rattle.arriving.specs.declared.leaps.Run.TheVariants as Run
use Rattle.arriving.specs.declared.leaps.Spot.{Spot}
use Rattle.arriving.specs.Between.Steps.{Stand, here_of, moded, on_mode, on_due, between, on_line, on_block, done}
use Rattle.arriving.specs.Between.Arriving.{sane_mode}
use Rattle.arriving.specs.declared.states.Quoted.{Quoted}
use Rattle.arriving.specs.declared.states.Inner as InnerOf
use Rattle.arriving.specs.declared.states.Inner.TheVariants as Inner
use Rattle.arriving.specs.declared.leaps.Reached.{Reached}
use Rattle.meaning.specs.declared.Refusal.{Refusal}
use Rattle.arriving.specs.declared.states.Out.{Out}
use Rattle.arriving.specs.declared.states.Out.TheVariants.{Takes, Breaks}
use Rattle.meaning.specs.declared.Refusal.TheVariants.{NotGrammar}
use Rattle.arriving.specs.Between.Strings.{quoted, next_quoted, on_body, on_lines, bad_now}
use Rattle.arriving.specs.Between.Leaps.{Leaps, Skips, due_at, stand_of, spot_at, stays_in, RanTo}
use Rattle.arriving.proofs.LeapsLaws.{within_more, leaps_then, leaps_step, run_leaps, stay_on}

-- ---- the loop

pub ran_none : (part : List ℕ) (from : ℕ) (run : RunOf.Run) → from ≤ length part → RanTo part from run from
ran_none part from run h = record { behind = omega arith; within = h; each = λ i a b. absurd (omega arith) }

pub ran_more : (part : List ℕ) (from : ℕ) (run : RunOf.Run) (to : ℕ) → RanTo part from run to → to < length part
    → stays_in run (get_or part to 0) ≡ true → RanTo part from run (to + 1)
ran_more part from run to r h e = record {
  behind = omega (arith, r.behind);
  within = omega arith;
  each = λ i a b. by i a b (eqb i to) refl;
}
  where
    by : (i : ℕ) → from ≤ i → i < to + 1 → (x : Bool) → eqb i to ≡ x → stays_in run (get_or part i 0) ≡ true
    by i a b true k = rw (eqb-true i to k) e
    by i a b false k = r.each i a (less (eqb-false i to k))
      where
        less : (i ≡ to → ⊥) → i < to
        less f = omega arith

-- ---- blanks

blank_class : (b : ℕ) → stays_in Run.Blank b ≡ true → class_of b ≡ blank_c
unfolding stays_in
blank_class b h = by (eqb b (ch " ")) (eqb b (ch "\n")) (eqb b (ch "\r")) (eqb b (ch "\t")) refl refl refl refl h
  where
    by : (x y z w : Bool) → eqb b (ch " ") ≡ x → eqb b (ch "\n") ≡ y → eqb b (ch "\r") ≡ z → eqb b (ch "\t") ≡ w
        → cond x true (cond y true (cond z true w)) ≡ true → class_of b ≡ blank_c
    by true y z w e f g k h' = rw (eqb-true b (ch " ") e)
    by false true z w e f g k h' = rw (eqb-true b (ch "\n") f)
    by false false true w e f g k h' = rw (eqb-true b (ch "\r") g)
    by false false false true e f g k h' = rw (eqb-true b (ch "\t") k)
    by false false false false e f g k h' = absurd (let z : ◌≡◌ {A = ℕ} 0 1 = cc in omega arith)

between_blank : (u : DueOf.Due) (d r w : ℕ) (ks : List ℕ) (p b : ℕ) → class_of b ≡ blank_c
    → on_due (here_of Mode.At u d r w, ks) p b u ≡ (here_of Mode.At u d r w, ks)
between_blank Due.Value d r w ks p b e = rw e
between_blank Due.Key d r w ks p b e = rw e
between_blank Due.StringPart d r w ks p b e = rw e
between_blank Due.KeyPart d r w ks p b e = rw e
between_blank Due.BinaryPart d r w ks p b e = rw e
between_blank Due.AfterValue d r w ks p b e = rw e
between_blank Due.AfterKey d r w ks p b e = rw e
between_blank Due.AfterString d r w ks p b e = rw e
between_blank Due.AfterKeyString d r w ks p b e = rw e
between_blank Due.AfterBinary d r w ks p b e = rw e

-- past blanks
pub blanks_pass : (part : List ℕ) (x : Spot) (ks : List ℕ) (to : ℕ) → RanTo part x.at Run.Blank to → Leaps part (stand_of x ks) x.at (stand_of x ks) to
unfolding on_mode between sane_mode
blanks_pass part x ks to r =
    run_leaps part Run.Blank (λ w. stand_of x ks)
    (λ w p b e. between_blank (due_at x) x.depth x.records x.stored ks p b (blank_class b e))
    (λ w n i. within_more n _ _ i i.deep (omega arith) (omega arith) refl) 0 x.at to r

-- ---- comments

line_note : (b : ℕ) (n : Note) → NoteIs b n → stays_in Run.Line b ≡ true → (x : Stand) (p : ℕ) → on_line x p n ≡ moded x Mode.Line
unfolding stays_in
line_note b plain_n i h x p = refl
line_note b star_n i h x p = refl
line_note b slash_n i h x p = refl
line_note b line_end i h x p =
    absurd (by (leb 0x20 b) refl (eqb b (ch "\t")) refl h)
  where
    by : (t : Bool) → leb 0x20 b ≡ t → (u : Bool) → eqb b (ch "\t") ≡ u → cond t true u ≡ true → ⊥
    by true e u f g = omega (arith, leb-true 0x20 b e, i.1)
    by false e true f g = omega (arith, eqb-true b (ch "\t") f, i.0)
    by false e false f g = let z : ◌≡◌ {A = ℕ} 0 1 = cc in omega arith
line_note b control_n i h x p =
    absurd (by (leb 0x20 b) refl (eqb b (ch "\t")) refl h)
  where
    by : (t : Bool) → leb 0x20 b ≡ t → (u : Bool) → eqb b (ch "\t") ≡ u → cond t true u ≡ true → ⊥
    by true e u f g = omega (arith, leb-true 0x20 b e, i.0)
    by false e true f g = i.1 (eqb-true b (ch "\t") f)
    by false e false f g = let z : ◌≡◌ {A = ℕ} 0 1 = cc in omega arith

block_note : (b : ℕ) (n : Note) → NoteIs b n → stays_in Run.Block b ≡ true → (x : Stand) (p : ℕ) → on_block x p n ≡ moded x Mode.Block
unfolding stays_in line_byte
block_note b plain_n i h x p = refl
block_note b slash_n i h x p = refl
block_note b line_end i h x p = refl
block_note b star_n i h x p = absurd (by (rw (eq-eqb _ _ i) at h))
  where
    by : ◌≡◌ {A = Bool} false true → ⊥
    by g = let z : ◌≡◌ {A = ℕ} 0 1 = cc in omega arith
block_note b control_n i h x p =
    absurd (by (eqb b (ch "*")) (rw (lt-ltb b 0x20 i.0, ne_eqb b (ch "\t") i.1, ne_eqb b (ch "\n") i.2, ne_eqb b (ch "\r") i.3) at h))
  where
    by : (t : Bool) → cond t false false ≡ true → ⊥
    by true g = let z : ◌≡◌ {A = ℕ} 0 1 = cc in omega arith
    by false g = let z : ◌≡◌ {A = ℕ} 0 1 = cc in omega arith

module _ (part : List ℕ) (u : DueOf.Due) (d r w : ℕ) (ks : List ℕ) (at to : ℕ) where
  pub line_leaps : RanTo part at Run.Line to → Leaps part (here_of Mode.Line u d r w, ks) at (here_of Mode.Line u d r w, ks) to
  unfolding on_mode sane_mode
  line_leaps h =
      run_leaps part Run.Line (λ k. (here_of Mode.Line u d r w, ks)) (λ k p b e. line_note b (note_of b) (note_is_lem b) e (here_of Mode.Line u d r w, ks) p)
      (λ k n i. within_more n _ _ i i.deep (omega arith) (omega arith) refl) 0 at to h

  pub block_leaps : RanTo part at Run.Block to → Leaps part (here_of Mode.Block u d r w, ks) at (here_of Mode.Block u d r w, ks) to
  unfolding on_mode sane_mode
  block_leaps h =
      run_leaps part Run.Block (λ k. (here_of Mode.Block u d r w, ks)) (λ k p b e.
      block_note b (note_of b) (note_is_lem b) e (here_of Mode.Block u d r w, ks) p)
      (λ k n i. within_more n _ _ i i.deep (omega arith) (omega arith) refl) 0 at to h

between_hash : (u : DueOf.Due) (d r w : ℕ) (ks : List ℕ) (p b : ℕ) → b ≡ ch "#"
    → on_due (here_of Mode.At u d r w, ks) p b u ≡ (here_of Mode.Line u d r w, ks)
between_hash Due.Value d r w ks p b e = rw e
between_hash Due.Key d r w ks p b e = rw e
between_hash Due.StringPart d r w ks p b e = rw e
between_hash Due.KeyPart d r w ks p b e = rw e
between_hash Due.BinaryPart d r w ks p b e = rw e
between_hash Due.AfterValue d r w ks p b e = rw e
between_hash Due.AfterKey d r w ks p b e = rw e
between_hash Due.AfterString d r w ks p b e = rw e
between_hash Due.AfterKeyString d r w ks p b e = rw e
between_hash Due.AfterBinary d r w ks p b e = rw e

-- past a line comment and the end of its line
pub comment_skips : (part : List ℕ) (x : Spot) (ks : List ℕ) (y : Spot) (to : ℕ) → x.at < length part → get_or part x.at 0 ≡ ch "#"
    → RanTo part (x.at + 1) Run.Line to → to < length part → (get_or part to 0 ≡ ch "\n") ⊎ (get_or part to 0 ≡ ch "\r")
    → y ≡ spot_at x (to + 1) → Skips part x ks y ks
unfolding on_mode between sane_mode
comment_skips part x ks y to h e r l n g =
    rw g
    (leaps_then
    (leaps_step part (stand_of x ks) x.at (here_of Mode.Line (due_at x) x.depth x.records x.stored, ks) (x.at + 1) h refl
    (λ p. between_hash (due_at x) x.depth x.records x.stored ks p (get_or part x.at 0) e)
    (λ k i. within_more k _ _ i i.deep (omega arith) (omega arith) refl))
    (leaps_then (line_leaps part (due_at x) x.depth x.records x.stored ks (x.at + 1) to r)
    (leaps_step part (here_of Mode.Line (due_at x) x.depth x.records x.stored, ks) to (stand_of x ks) (to + 1) l refl
    (λ p. by p n) (λ k i. within_more k _ _ i i.deep (omega arith) (omega arith) refl))))
  where
    by : (p : ℕ) → (get_or part to 0 ≡ ch "\n") ⊎ (get_or part to 0 ≡ ch "\r")
        → on_line (here_of Mode.Line (due_at x) x.depth x.records x.stored, ks) p (note_of (get_or part to 0)) ≡ stand_of x ks
    by p (inl f) = rw f
    by p (inr f) = rw f

-- ---- string parts

body_takes : (k : Quoted) (p b : ℕ) → k.half ≡ 0 → stays_in (Run.Plain k.quote) b ≡ true
    → next_quoted k Inner.Body p b ≡ Takes (Mode.Quoting k Inner.Body) 1
unfolding next_quoted on_body bad_now stays_in
body_takes k p b e h = by (eqb b (ch "\\")) (eqb b k.quote) (plain_byte b) h
  where
    by : (x y z : Bool) → cond x false (cond y false z) ≡ true
        → cond x (Takes (Mode.Quoting k (Inner.Escape (p + 1))) 0)
        (cond y (Takes (Mode.Quoting k Inner.Done) 0)
        (cond z (Takes (Mode.Quoting (quoted k.quote (bad_now k) 0) Inner.Body) 1) (Breaks (NotGrammar p)))) ≡ Takes (Mode.Quoting k Inner.Body) 1
    by true y z g = absurd (let z' : ◌≡◌ {A = ℕ} 0 1 = cc in omega arith)
    by false true z g = absurd (let z' : ◌≡◌ {A = ℕ} 0 1 = cc in omega arith)
    by false false false g = absurd (let z' : ◌≡◌ {A = ℕ} 0 1 = cc in omega arith)
    by false false true g =
        rw (eq-eqb _ _ e) (ap (λ (i : ℕ). Takes (Mode.Quoting (quoted k.quote k.bad i) Inner.Body) 1) (sym e))

lines_takes : (k : Quoted) (p b : ℕ) → stays_in (Run.Lines k.quote) b ≡ true → next_quoted k (Inner.Lines 0) p b ≡ Takes (Mode.Quoting k (Inner.Lines 0)) 1
unfolding next_quoted on_lines stays_in
lines_takes k p b h = by (eqb b k.quote) (line_byte b) h
  where
    by : (x y : Bool) → cond x false y ≡ true
        → cond x (cond (leb 2 0) (Takes (Mode.Quoting k Inner.Done) 0) (Takes (Mode.Quoting k (Inner.Lines (0 + 1))) 0))
        (cond y (Takes (Mode.Quoting k (Inner.Lines 0)) (0 + 0 % 4 + 1)) (Breaks (NotGrammar p))) ≡ Takes (Mode.Quoting k (Inner.Lines 0)) 1
    by true y g = absurd (let z : ◌≡◌ {A = ℕ} 0 1 = cc in omega arith)
    by false true g = refl
    by false false g = absurd (let z : ◌≡◌ {A = ℕ} 0 1 = cc in omega arith)

module _ (part : List ℕ) (k : Quoted) (u : DueOf.Due) (d r w : ℕ) (ks : List ℕ) (at to : ℕ) where
  pub body_leaps : k.half ≡ 0 → RanTo part at (Run.Plain k.quote) to
      → Leaps part (here_of (Mode.Quoting k Inner.Body) u d r w, ks) at (here_of (Mode.Quoting k Inner.Body) u d r (w + (to - at)), ks) to
  unfolding on_mode sane_mode done
  body_leaps e h =
      run_leaps part (Run.Plain k.quote) (λ v. (here_of (Mode.Quoting k Inner.Body) u d r v, ks))
      (λ v p b f. ap (λ (o : Out). done (here_of (Mode.Quoting k Inner.Body) u d r v, ks) p b o) (body_takes k p b e f))
      (λ v n i. within_more n _ _ i i.deep (omega arith) (omega arith) refl) w at to h

  pub lines_leaps : RanTo part at (Run.Lines k.quote) to
      → Leaps part (here_of (Mode.Quoting k (Inner.Lines 0)) u d r w, ks) at (here_of (Mode.Quoting k (Inner.Lines 0)) u d r (w + (to - at)), ks) to
  unfolding on_mode sane_mode done
  lines_leaps h =
      run_leaps part (Run.Lines k.quote) (λ v. (here_of (Mode.Quoting k (Inner.Lines 0)) u d r v, ks))
      (λ v p b f. ap (λ (o : Out). done (here_of (Mode.Quoting k (Inner.Lines 0)) u d r v, ks) p b o) (lines_takes k p b f))
      (λ v n i. within_more n _ _ i i.deep (omega arith) (omega arith) refl) w at to h

-- ---- what the functions come to

pub blank_skips : (part : List ℕ) (x : Spot) (ks : List ℕ) (y : Spot) (to : ℕ) → RanTo part x.at Run.Blank to
    → y ≡ spot_at x to → Skips part x ks y ks
blank_skips part x ks y to r g = rw g (blanks_pass part x ks to r)

-- the state after so many store bytes more
abbrev Grew : Here → ℕ → ℕ → Here
Grew h at to = here_of h.mode h.due h.depth h.records (h.stored + (to - at))

module _ (part : List ℕ) (h : Here) (ks : List ℕ) (at : ℕ) (r : Reached) where
  pub line_run : h.mode ≡ Mode.Line → (r.here ≡ h) × RanTo part at Run.Line r.at → Leaps part (h, ks) at (r.here, ks) r.at
  line_run m f =
      rw f.0 (subst (λ (m' : ModeOf.Mode). Leaps part (here_of m' h.due h.depth h.records h.stored, ks) at
      (here_of m' h.due h.depth h.records h.stored, ks) r.at) (sym m)
      (line_leaps part h.due h.depth h.records h.stored ks at r.at f.1))

  pub block_run : h.mode ≡ Mode.Block → (r.here ≡ h) × RanTo part at Run.Block r.at → Leaps part (h, ks) at (r.here, ks) r.at
  block_run m f =
      rw f.0 (subst (λ (m' : ModeOf.Mode). Leaps part (here_of m' h.due h.depth h.records h.stored, ks) at
      (here_of m' h.due h.depth h.records h.stored, ks) r.at) (sym m)
      (block_leaps part h.due h.depth h.records h.stored ks at r.at f.1))

  module _ (k : Quoted) (s : InnerOf.Inner) (m : h.mode ≡ Mode.Quoting k s) where
    pub body_run : s ≡ Inner.Body → k.half ≡ 0 → (r.here ≡ Grew h at r.at) × RanTo part at (Run.Plain k.quote) r.at
        → Leaps part (h, ks) at (r.here, ks) r.at
    body_run e z f =
        rw f.0 (subst (λ (m' : ModeOf.Mode). Leaps part (here_of m' h.due h.depth h.records h.stored, ks) at
        (here_of m' h.due h.depth h.records (h.stored + (r.at - at)), ks) r.at) (sym (m ∙ ap (Mode.Quoting k) e))
        (body_leaps part k h.due h.depth h.records h.stored ks at r.at z f.1))

    pub lines_run : (n : ℕ) → s ≡ Inner.Lines n → n ≡ 0 → (r.here ≡ Grew h at r.at) × RanTo part at (Run.Lines k.quote) r.at
        → Leaps part (h, ks) at (r.here, ks) r.at
    lines_run n e z f =
        rw f.0 (subst (λ (m' : ModeOf.Mode). Leaps part (here_of m' h.due h.depth h.records h.stored, ks) at
        (here_of m' h.due h.depth h.records (h.stored + (r.at - at)), ks) r.at)
        (sym (m ∙ ap (Mode.Quoting k) (e ∙ ap Inner.Lines z)))
        (lines_leaps part k h.due h.depth h.records h.stored ks at r.at f.1))

-- a refused check stays so
pub failed_leaps : (part : List ℕ) (h : Here) (ks : List ℕ) (at : ℕ) (w : Refusal) → h.mode ≡ Mode.Failed w → at ≤ length part
    → Leaps part (h, ks) at (h, ks) (length part)
unfolding on_mode sane_mode
failed_leaps part h ks at w m l =
    subst (λ (m' : ModeOf.Mode). Leaps part (here_of m' h.due h.depth h.records h.stored, ks) at
    (here_of m' h.due h.depth h.records h.stored, ks) (length part)) (sym m)
    (stay_on part (here_of (Mode.Failed w) h.due h.depth h.records h.stored, ks) (λ p b. refl)
    (λ n i. within_more n _ _ i i.deep (omega arith) (omega arith) refl) (length part - at) at (length part) (omega arith) (omega arith))
