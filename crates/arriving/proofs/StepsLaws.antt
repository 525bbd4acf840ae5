-- A byte of the grammar: brackets and commas by the code's tests, and what a byte keeps. Assumes nothing.
use Prim.Native.Nat.{ℕ, zero, suc, ◌+◌, ◌*◌, ◌-◌, ◌≤◌}
use mathlib.Core.Path.{◌≡◌, refl, sym, ap, ◌∙◌, subst}
use mathlib.Core.Bool.{Bool, true, false, cond, ◌&&◌}
use mathlib.Core.List.{List, [], ◌∷◌, ◌++◌}
use native.Mathlib.Omega.{arith}
use native.Mathlib.Nat.{add-zero}
use borrow.Author.Tests.{le-leb, leb-true, ltb-true}
use lib.Dec.{leb, ltb, eqb}
use lib.ListN.{length, set, length-set}
use Rattle.meaning.specs.Limits.{text_limit, depth_limit}
use Rattle.meaning.specs.declared.Refusal.TheVariants.{TooDeep, NotGrammar}
use Rattle.machine.specs.Machine.{Bracket, square, curly, Class, class_of, Note, note_of}
use Rattle.machine.specs.Machine.{blank_c, hash_c, slash_c, comma_c, colon_c, plus_c, quote_c, dollar_c, letter_n, letter_t}
use Rattle.machine.specs.Machine.{letter_f, letter_c, other_c, open_c, close_c, line_end, star_n, slash_n, plain_n, control_n}
use Rattle.arriving.specs.declared.states.Due as DueOf
use Rattle.arriving.specs.declared.states.Due.TheVariants as Due
use Rattle.arriving.specs.declared.states.Mode as ModeOf
use Rattle.arriving.specs.declared.states.Mode.TheVariants as Mode
use Rattle.arriving.specs.declared.states.Figure.{Figure}
use Rattle.arriving.specs.declared.states.Here.{Here}
use Rattle.arriving.specs.declared.states.Out.{Out}
use Rattle.arriving.specs.declared.states.Out.TheVariants.{Takes, Stops, Breaks}
use Rattle.arriving.specs.Between.Steps.{Stand, here_of, moded, due_now, begun, resumed, refused, odd, kind_of, due_in, top_of, opened, closed, comma}
use Rattle.arriving.specs.Between.Steps.{after_value, after_key, plus, on_after, begun_figure, on_value, on_key, on_part, on_due, between}
use Rattle.arriving.specs.Between.Steps.{on_slash, on_line, on_block, on_star, done, on_mode, next, walked}
use Rattle.arriving.specs.Between.Arriving.{sane_mode, sane_here}
use Rattle.arriving.specs.declared.states.Octets.TheVariants as Octets
use Rattle.arriving.specs.Between.Figures.{begin_figure, next_figure, sane_figure}
use Rattle.arriving.specs.Between.Times.{next_moment}
use Rattle.arriving.specs.Between.Strings.{open_quote, next_quoted}
use Rattle.arriving.specs.Between.Small.{next_word, next_octets, next_name, null_at, true_at, false_at}
use Rattle.arriving.specs.Between.Room.{Roomy, Few}
use Rattle.arriving.proofs.Bounds.{Bounded}
use Rattle.arriving.proofs.FiguresBounds.{begin_bounded, figures_bounded}
use Rattle.arriving.proofs.TimesLaws.{times_bounded}
use Rattle.arriving.proofs.StringsBoundsLaws.{quoted_bounded}
use Rattle.arriving.proofs.SmallLaws.{word_bounded, name_bounded, octets_bounded}

-- an answer for one case is the answer where that case holds
pub by : {A C : Type 0} (f : C → A) {k l : C} {y : A} → k ≡ l → y ≡ f l → y ≡ f k
by f e h = h ∙ ap f (sym e)

-- ---- brackets

-- a bracket is open where a kind is found
pub top_deep : (ks : List ℕ) (d k : ℕ) → k ≡ top_of ks d → 1 ≤ k → 1 ≤ d
unfolding top_of
top_deep ks zero k e h = absurd (omega arith)
top_deep ks (suc d) k e h = omega arith

-- ---- what sums and indexes need

pub few_by : (n : ℕ) {o o' : Out} → o ≡ o' → Bounded n o' → Few o
few_by n {o} {o'} e h = subst Few (sym e) (go o' h)
  where
    go : (o : Out) → Bounded n o → Few o
    go (Takes m k) h = h.1
    go Stops h = tt
    go (Breaks r) h = tt

pub few_takes : (o : Out) (m : ModeOf.Mode) (k : ℕ) → Few o → o ≡ Takes m k → k ≤ 258
few_takes o m k h e = subst Few e h

pub both : (s t : Bool) → (s && t) ≡ true → (s ≡ true) × (t ≡ true)
both true t h = (refl, h)
both false t h = let z : ◌≡◌ {A = Bool} false true = h in (h, absurd (never z))
  where
    never : ◌≡◌ {A = Bool} false true → ⊥
    never e = let z : ◌≡◌ {A = ℕ} 0 1 = cc in omega arith

pub together : {s t : Bool} → s ≡ true → t ≡ true → (s && t) ≡ true
together e f = rw (e, f)

-- the bounds but for the item's
pub record Within (n : ℕ) (h : Here) : Type 0 where
  pub shallow : h.depth ≤ depth_limit
  pub counted : h.records ≤ n
  pub bounded : h.stored ≤ 300 * n

module _ (n : ℕ) (h : Here) where
  pub within_of : sane_here n h ≡ true → Within n h
  unfolding sane_here
  within_of e =
      let a = both (leb h.depth depth_limit) (leb h.records n && (leb h.stored (300 * n) && sane_mode n h.mode)) e in
      let b = both (leb h.records n) (leb h.stored (300 * n) && sane_mode n h.mode) a.1 in
      let d = both (leb h.stored (300 * n)) (sane_mode n h.mode) b.1 in
      record { shallow = leb-true _ _ a.0; counted = leb-true _ _ b.0; bounded = leb-true _ _ d.0 }

  pub mode_of : sane_here n h ≡ true → sane_mode n h.mode ≡ true
  unfolding sane_here
  mode_of e =
      let a = both (leb h.depth depth_limit) (leb h.records n && (leb h.stored (300 * n) && sane_mode n h.mode)) e in
      let b = both (leb h.records n) (leb h.stored (300 * n) && sane_mode n h.mode) a.1 in
      (both (leb h.stored (300 * n)) (sane_mode n h.mode) b.1).1

  pub sane_of : Within n h → sane_mode n h.mode ≡ true → sane_here n h ≡ true
  unfolding sane_here
  sane_of w m = together (le-leb _ _ w.shallow) (together (le-leb _ _ w.counted) (together (le-leb _ _ w.bounded) m))

  pub roomy_of : sane_here n h ≡ true → n ≤ text_limit → Roomy h
  roomy_of e l = let w = within_of e in record { shallow = w.shallow; counted = omega arith; bounded = omega arith }

-- ---- what a byte keeps

-- after the byte at p: the bounds with the item's, and as many kinds
abbrev Kept : Stand → ℕ → Stand → Type 0
Kept x p y = (sane_here (suc p) y.0 ≡ true) × (length y.1 ≡ length x.1)

kept_either : (x : Stand) (p : ℕ) (t : Bool) (y z : Stand) → (t ≡ true → Kept x p y) → (t ≡ false → Kept x p z) → Kept x p (cond t y z)
kept_either x p true y z g h = g refl
kept_either x p false y z g h = h refl

module _ (x : Stand) (p : ℕ) (w : Within p x.0) where
  -- no record and no store byte
  still : (m : ModeOf.Mode) (u : DueOf.Due) → sane_mode (suc p) m ≡ true → Kept x p (resumed x m u)
  still m u e = (
    sane_of (suc p) (resumed x m u).0 (record { shallow = w.shallow; counted = omega (arith, w.counted); bounded = omega (arith, w.bounded) }) e,
    refl,
  )

  -- a record and few store bytes
  begins : (m : ModeOf.Mode) (u : DueOf.Due) (n : ℕ) → sane_mode (suc p) m ≡ true → n ≤ 258 → Kept x p (begun x m u n)
  begins m u n e l = (
    sane_of (suc p) (begun x m u n).0 (record { shallow = w.shallow; counted = omega (arith, w.counted); bounded = omega (arith, w.bounded) }) e,
    refl,
  )

  stuck : Kept x p (odd x p)
  unfolding sane_mode
  stuck = still (Mode.Failed (NotGrammar p)) x.0.due refl

  layout : (m : ModeOf.Mode) → sane_mode (suc p) m ≡ true → Kept x p (moded x m)
  layout m e = still m x.0.due e

  opened_kept : (c : Bracket) → Kept x p (opened x p c)
  unfolding opened sane_mode
  opened_kept c =
      kept_either x p (ltb x.0.depth depth_limit)
      (here_of Mode.At (due_in c) (x.0.depth + 1) (x.0.records + 1) x.0.stored, set x.1 x.0.depth (kind_of c))
      (refused x (TooDeep p))
      (λ e. let l = ltb-true x.0.depth depth_limit e in (
        sane_of (suc p) (here_of Mode.At (due_in c) (x.0.depth + 1) (x.0.records + 1) x.0.stored)
            (record { shallow = omega (arith, l); counted = omega (arith, w.counted); bounded = omega (arith, w.bounded) }) refl,
        length-set x.1 x.0.depth (kind_of c),
      ))
      (λ e. layout (Mode.Failed (TooDeep p)) refl)

  closed_kept : (c : Bracket) → Kept x p (closed x p c)
  unfolding closed sane_mode
  closed_kept c =
      kept_either x p (eqb (top_of x.1 x.0.depth) (kind_of c))
      (here_of Mode.At Due.AfterValue (x.0.depth - 1) x.0.records x.0.stored, x.1) (odd x p)
      (λ e. (
        sane_of (suc p) (here_of Mode.At Due.AfterValue (x.0.depth - 1) x.0.records x.0.stored)
            (record { shallow = omega (arith, w.shallow); counted = omega (arith, w.counted); bounded = omega (arith, w.bounded) }) refl,
        refl,
      ))
      (λ e. stuck)

  comma_kept : Kept x p (comma x p)
  unfolding comma sane_mode
  comma_kept =
      kept_either x p (eqb (top_of x.1 x.0.depth) (kind_of square)) (due_now x Due.Value)
      (cond (eqb (top_of x.1 x.0.depth) (kind_of curly)) (due_now x Due.Key) (odd x p)) (λ e. still Mode.At Due.Value refl)
      (λ e. kept_either x p (eqb (top_of x.1 x.0.depth) (kind_of curly)) (due_now x Due.Key) (odd x p) (λ f. still Mode.At Due.Key refl)
      (λ f. stuck))

  plus_kept : (u : DueOf.Due) → Kept x p (plus x p u)
  unfolding sane_mode
  plus_kept Due.Value = stuck
  plus_kept Due.Key = stuck
  plus_kept Due.StringPart = stuck
  plus_kept Due.KeyPart = stuck
  plus_kept Due.BinaryPart = stuck
  plus_kept Due.AfterValue = stuck
  plus_kept Due.AfterKey = stuck
  plus_kept Due.AfterString = still Mode.At Due.StringPart refl
  plus_kept Due.AfterKeyString = still Mode.At Due.KeyPart refl
  plus_kept Due.AfterBinary = still Mode.At Due.BinaryPart refl

  after_kept : (k : Class) → Kept x p (on_after x p k)
  unfolding sane_mode
  after_kept blank_c = layout Mode.At refl
  after_kept hash_c = layout Mode.Line refl
  after_kept slash_c = layout Mode.Slash refl
  after_kept comma_c = kept_either x p (after_value x.0.due) (comma x p) (odd x p) (λ e. comma_kept) (λ e. stuck)
  after_kept (close_c c) = kept_either x p (after_value x.0.due) (closed x p c) (odd x p) (λ e. closed_kept c) (λ e. stuck)
  after_kept colon_c = kept_either x p (after_key x.0.due) (due_now x Due.Value) (odd x p) (λ e. still Mode.At Due.Value refl) (λ e. stuck)
  after_kept plus_c = plus_kept x.0.due
  after_kept (open_c c) = stuck
  after_kept quote_c = stuck
  after_kept dollar_c = stuck
  after_kept letter_n = stuck
  after_kept letter_t = stuck
  after_kept letter_f = stuck
  after_kept letter_c = stuck
  after_kept other_c = stuck

  figure_kept : (o : Out) → Bounded (suc p) o → Kept x p (begun_figure x p o)
  unfolding begun_figure sane_mode
  figure_kept (Takes m n) h = begins m Due.AfterValue n h.0 h.1
  figure_kept Stops h = stuck
  figure_kept (Breaks r) h = layout (Mode.Failed r) refl

  value_kept : (b : ℕ) (k : Class) → Kept x p (on_value x p b k)
  unfolding sane_mode
  value_kept b blank_c = layout Mode.At refl
  value_kept b hash_c = layout Mode.Line refl
  value_kept b slash_c = layout Mode.Slash refl
  value_kept b (open_c c) = opened_kept c
  value_kept b (close_c square) = closed_kept square
  value_kept b (close_c curly) = stuck
  value_kept b quote_c = begins (open_quote b) Due.AfterString 0 refl (omega arith)
  value_kept b dollar_c = begins (Mode.Packing Octets.Dollar) Due.AfterBinary 0 refl (omega arith)
  value_kept b letter_n = begins (Mode.Spelling null_at) Due.AfterValue 0 refl (omega arith)
  value_kept b letter_t = begins (Mode.Spelling true_at) Due.AfterValue 0 refl (omega arith)
  value_kept b letter_f = begins (Mode.Spelling false_at) Due.AfterValue 0 refl (omega arith)
  value_kept b plus_c = figure_kept (begin_figure p b) (begin_bounded p b)
  value_kept b letter_c = figure_kept (begin_figure p b) (begin_bounded p b)
  value_kept b other_c = figure_kept (begin_figure p b) (begin_bounded p b)
  value_kept b comma_c = stuck
  value_kept b colon_c = stuck

  key_kept : (b : ℕ) (k : Class) → Kept x p (on_key x p b k)
  unfolding sane_mode
  key_kept b blank_c = layout Mode.At refl
  key_kept b hash_c = layout Mode.Line refl
  key_kept b slash_c = layout Mode.Slash refl
  key_kept b (close_c square) = stuck
  key_kept b (close_c curly) = closed_kept curly
  key_kept b quote_c = begins (open_quote b) Due.AfterKeyString 0 refl (omega arith)
  key_kept b dollar_c = begins Mode.Naming Due.AfterKey 1 refl (omega arith)
  key_kept b letter_n = begins Mode.Naming Due.AfterKey 1 refl (omega arith)
  key_kept b letter_t = begins Mode.Naming Due.AfterKey 1 refl (omega arith)
  key_kept b letter_f = begins Mode.Naming Due.AfterKey 1 refl (omega arith)
  key_kept b letter_c = begins Mode.Naming Due.AfterKey 1 refl (omega arith)
  key_kept b (open_c c) = stuck
  key_kept b plus_c = stuck
  key_kept b comma_c = stuck
  key_kept b colon_c = stuck
  key_kept b other_c = stuck

  part_kept : (y z : Stand) → Kept x p y → Kept x p z → (k : Class) → Kept x p (on_part x p y z k)
  unfolding sane_mode
  part_kept y z g h blank_c = layout Mode.At refl
  part_kept y z g h hash_c = layout Mode.Line refl
  part_kept y z g h slash_c = layout Mode.Slash refl
  part_kept y z g h quote_c = g
  part_kept y z g h dollar_c = h
  part_kept y z g h (open_c c) = stuck
  part_kept y z g h (close_c c) = stuck
  part_kept y z g h letter_n = stuck
  part_kept y z g h letter_t = stuck
  part_kept y z g h letter_f = stuck
  part_kept y z g h letter_c = stuck
  part_kept y z g h plus_c = stuck
  part_kept y z g h comma_c = stuck
  part_kept y z g h colon_c = stuck
  part_kept y z g h other_c = stuck

  due_kept : (b : ℕ) (u : DueOf.Due) → Kept x p (on_due x p b u)
  unfolding sane_mode
  due_kept b Due.Value = value_kept b (class_of b)
  due_kept b Due.Key = key_kept b (class_of b)
  due_kept b Due.StringPart =
      part_kept (resumed x (open_quote b) Due.AfterString) (odd x p) (still (open_quote b) Due.AfterString refl) stuck (class_of b)
  due_kept b Due.KeyPart =
      part_kept (resumed x (open_quote b) Due.AfterKeyString) (odd x p) (still (open_quote b) Due.AfterKeyString refl) stuck (class_of b)
  due_kept b Due.BinaryPart =
      part_kept (odd x p) (resumed x (Mode.Packing Octets.Dollar) Due.AfterBinary) stuck (still (Mode.Packing Octets.Dollar) Due.AfterBinary refl)
      (class_of b)
  due_kept b Due.AfterValue = after_kept (class_of b)
  due_kept b Due.AfterKey = after_kept (class_of b)
  due_kept b Due.AfterString = after_kept (class_of b)
  due_kept b Due.AfterKeyString = after_kept (class_of b)
  due_kept b Due.AfterBinary = after_kept (class_of b)

  pub between_kept : (b : ℕ) → Kept x p (between x p b)
  unfolding between
  between_kept b = due_kept b x.0.due

  slash_kept : (n : Note) → Kept x p (on_slash x p n)
  unfolding sane_mode
  slash_kept slash_n = layout Mode.Line refl
  slash_kept star_n = layout Mode.Block refl
  slash_kept line_end = stuck
  slash_kept plain_n = stuck
  slash_kept control_n = stuck

  line_kept : (n : Note) → Kept x p (on_line x p n)
  unfolding sane_mode
  line_kept line_end = layout Mode.At refl
  line_kept control_n = stuck
  line_kept slash_n = layout Mode.Line refl
  line_kept star_n = layout Mode.Line refl
  line_kept plain_n = layout Mode.Line refl

  block_kept : (n : Note) → Kept x p (on_block x p n)
  unfolding sane_mode
  block_kept star_n = layout Mode.Star refl
  block_kept control_n = stuck
  block_kept slash_n = layout Mode.Block refl
  block_kept line_end = layout Mode.Block refl
  block_kept plain_n = layout Mode.Block refl

  star_kept : (n : Note) → Kept x p (on_star x p n)
  unfolding sane_mode
  star_kept slash_n = layout Mode.At refl
  star_kept star_n = layout Mode.Star refl
  star_kept control_n = stuck
  star_kept line_end = layout Mode.Block refl
  star_kept plain_n = layout Mode.Block refl

module _ (x : Stand) (p : ℕ) (w : Within p x.0) where
  done_kept : (b : ℕ) (o : Out) → Bounded (suc p) o → Kept x p (done x p b o)
  unfolding done sane_mode
  done_kept b (Takes m n) h = (
    sane_of (suc p) (here_of m x.0.due x.0.depth x.0.records (x.0.stored + n))
        (record { shallow = w.shallow; counted = omega (arith, w.counted); bounded = omega (arith, w.bounded, h.1) }) h.0,
    refl,
  )
  done_kept b Stops h =
      between_kept (moded x Mode.At) p (record { shallow = w.shallow; counted = w.counted; bounded = w.bounded }) b
  done_kept b (Breaks r) h = layout x p w (Mode.Failed r) refl

  mode_kept : (b : ℕ) (m : ModeOf.Mode) → x.0.mode ≡ m → sane_mode p m ≡ true → Kept x p (on_mode x p b m)
  unfolding on_mode sane_mode
  mode_kept b Mode.At e h = between_kept x p w b
  mode_kept b Mode.Slash e h = slash_kept x p w (note_of b)
  mode_kept b Mode.Line e h = line_kept x p w (note_of b)
  mode_kept b Mode.Block e h = block_kept x p w (note_of b)
  mode_kept b Mode.Star e h = star_kept x p w (note_of b)
  mode_kept b (Mode.Spelling n) e h = done_kept b (next_word n p b) (word_bounded (suc p) n p b)
  mode_kept b (Mode.Counting f) e h = done_kept b (next_figure f p b) (figures_bounded f p b h)
  mode_kept b (Mode.Timing s m) e h = done_kept b (next_moment s m p b) (times_bounded s m (suc p) p b)
  mode_kept b (Mode.Quoting k s) e h = done_kept b (next_quoted k s p b) (quoted_bounded k s (suc p) p b)
  mode_kept b (Mode.Packing o) e h = done_kept b (next_octets o p b) (octets_bounded (suc p) o p b)
  mode_kept b Mode.Naming e h = done_kept b (next_name b) (name_bounded (suc p) b)
  mode_kept b (Mode.Failed r) e h = (
    sane_of (suc p) x.0 (record { shallow = w.shallow; counted = omega (arith, w.counted); bounded = omega (arith, w.bounded) })
        (rw e refl),
    refl,
  )

module _ (x : Stand) (p b : ℕ) (h : sane_here p x.0 ≡ true) where
  next_kept : Kept x p (next x p b)
  next_kept = mode_kept x p (within_of p x.0 h) b x.0.mode refl (mode_of p x.0 h)

  pub next_sane : sane_here (suc p) (next x p b).0 ≡ true
  next_sane = next_kept.0

  pub next_length : length (next x p b).1 ≡ length x.1
  next_length = next_kept.1

-- bytes after bytes
pub walked_join : (x : Stand) (p : ℕ) (s t : List ℕ) → walked x p (s ++ t) ≡ walked (walked x p s) (p + length s) t
unfolding walked
walked_join x p [] t = rw add-zero
walked_join x p (b ∷ s) t = walked_join (next x p b) (suc p) s t ∙ ap (λ (n : ℕ). walked (walked (next x p b) (suc p) s) n t) (omega arith)

pub walked_sane : (x : Stand) (p : ℕ) (t : List ℕ) → sane_here p x.0 ≡ true → sane_here (p + length t) (walked x p t).0 ≡ true
unfolding walked
walked_sane x p [] h = rw add-zero h
walked_sane x p (b ∷ t) h =
    subst (λ (n : ℕ). sane_here n (walked (next x p b) (suc p) t).0 ≡ true) (omega arith)
    (walked_sane (next x p b) (suc p) t (next_sane x p b h))

pub walked_length : (x : Stand) (p : ℕ) (t : List ℕ) → sane_here p x.0 ≡ true → length (walked x p t).1 ≡ length x.1
unfolding walked
walked_length x p [] h = refl
walked_length x p (b ∷ t) h = walked_length (next x p b) (suc p) t (next_sane x p b h) ∙ next_length x p b h

-- ---- answers out of answers

pub figure_of_lem : (p : ℕ) (h : Here) (f : Figure) → sane_here p h ≡ true → h.mode ≡ Mode.Counting f → sane_figure p f ≡ true
unfolding sane_mode
figure_of_lem p h f s e = subst (λ (m : ModeOf.Mode). sane_mode p m ≡ true) e (mode_of p h s)
