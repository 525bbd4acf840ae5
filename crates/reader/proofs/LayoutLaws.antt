-- Layout: blanks and comments, a byte at a time. Assumes nothing.
use mathlib.Core.Path.{◌≡◌, refl, ◌∙◌}
use mathlib.Core.Bool.{Bool, true, false}
use mathlib.Core.List.{List, []}
use Prim.Native.Nat.{ℕ, ◌+◌, ◌≤◌, ◌<◌}
use native.Mathlib.Omega.{arith}
use lib.Dec.{eqb}
use lib.ListN.{length, get_or}
use borrow.Author.Tests.{ne_eqb}
use Rattle.meaning.specs.declared.Refusal.TheVariants.{NotGrammar}
use Rattle.meaning.specs.Letters.{ch}
use Rattle.machine.specs.Machine
use Rattle.machine.specs.Machine.{Base, want, want_key, want_string, want_binary, got, Mode, base, slash, line, block, star, Frame, Conf, at, step, finish}
use Rattle.machine.specs.Machine.{Class, class_of, blank_c, hash_c, slash_c, Note, note_of, line_end, star_n, slash_n, plain_n, control_n}
use Rattle.items.specs.Between.Places.{Onward}
use Rattle.reader.specs.Between.Scanning.{Goes}
use Rattle.reader.specs.Between.Layout.{Passes, Commented, Breaks, Blanks, LayoutEnds, CommentSays}
use Rattle.std.specs.Prelude.{Result, Ok, Err}
use Rattle.items.specs.declared.NotGrammar as Broken
use Rattle.machine.proofs.Layouts.{NoteIs, note_is_lem}
use Rattle.reader.proofs.ScanningLaws.{move, both, go, stop_quietly, halt_quietly, alike_end}
use Rattle.items.proofs.PlacesLaws.{here, further, then}

-- ---- what a byte of each class does, whatever is expected

on_blank : (s : Base) (p d : ℕ) (k : List Frame) (b : ℕ) → class_of b ≡ blank_c → move p (at (base s) d k) b ≡ (at (base s) d k, [])
on_blank want p d k b e = rw e
on_blank want_key p d k b e = rw e
on_blank (want_string z u) p d k b e = rw e
on_blank (want_binary u) p d k b e = rw e
on_blank (got g) p d k b e = rw e

on_hash : (s : Base) (p d : ℕ) (k : List Frame) (b : ℕ) → class_of b ≡ hash_c → move p (at (base s) d k) b ≡ (at (line s) d k, [])
on_hash want p d k b e = rw e
on_hash want_key p d k b e = rw e
on_hash (want_string z u) p d k b e = rw e
on_hash (want_binary u) p d k b e = rw e
on_hash (got g) p d k b e = rw e

on_slash_lem : (s : Base) (p d : ℕ) (k : List Frame) (b : ℕ) → class_of b ≡ slash_c → move p (at (base s) d k) b ≡ (at (slash s) d k, [])
on_slash_lem want p d k b e = rw e
on_slash_lem want_key p d k b e = rw e
on_slash_lem (want_string z u) p d k b e = rw e
on_slash_lem (want_binary u) p d k b e = rw e
on_slash_lem (got g) p d k b e = rw e

-- on the way
pub record Passing (text : List ℕ) (p q : ℕ) : Type 0 where
  pub goes : Passes text p q
  pub onward : Onward text p q

-- in a comment
pub record Noting (text : List ℕ) (mode mode' : Base → Mode) (p q : ℕ) : Type 0 where
  pub goes : (s : Base) (d : ℕ) (k : List Frame) → Goes text (at (mode s) d k) p (at (mode' s) d k) q
  pub onward : Onward text p q

-- the byte at q leads from the mode m to n, and says nothing
abbrev Leads : List ℕ → (Base → Mode) → (Base → Mode) → ℕ → Type 0
Leads text m n q = (s : Base) (d : ℕ) (k : List Frame) → move q (at (m s) d k) (get_or text q 0) ≡ (at (n s) d k, [])

module _ {text : List ℕ} where
  pub none_yet : (p : ℕ) → p ≤ length text → Passing text p p
  none_yet p h = record { goes = λ s d k. refl; onward = here text p h }

  module _ {p q : ℕ} (v : Passing text p q) where
    pub one_more : q < length text → class_of (get_or text q 0) ≡ blank_c → Passing text p (q + 1)
    one_more h e = record {
      goes = λ s d k. v.goes s d k ∙ go (at (base s) d k) (at (base s) d k) text q h (on_blank s q d k (get_or text q 0) e);
      onward = further v.onward h;
    }

    pub blanks_stop : (class_of (get_or text q 0) ≡ blank_c → ⊥) → Blanks text p q
    blanks_stop n = record { goes = v.goes; onward = v.onward; stopped = λ h. n }

    pub blanks_end : length text ≤ q → Blanks text p q
    blanks_end n = record { goes = v.goes; onward = v.onward; stopped = λ h. absurd (omega arith) }

  pub noting : (mode : Base → Mode) (p : ℕ) → p ≤ length text → Noting text mode mode p p
  noting mode p h = record { goes = λ s d k. refl; onward = here text p h }

  module _ {m n : Base → Mode} {p q : ℕ} (v : Noting text m n p q) where
    pub note_more : (o : Base → Mode) → q < length text → Leads text n o q → Noting text m o p (q + 1)
    note_more o h e = record {
      goes = λ s d k. v.goes s d k ∙ go (at (n s) d k) (at (o s) d k) text q h (e s d k);
      onward = further v.onward h;
    }

    pub note_ends : q < length text → Leads text n base q → Commented text m p (q + 1)
    note_ends h e = record {
      goes = λ s d k. v.goes s d k ∙ go (at (n s) d k) (at (base s) d k) text q h (e s d k);
      onward = further v.onward h;
    }

    pub note_over : length text ≤ q → ((s : Base) (d : ℕ) (k : List Frame) → finish q (at (n s) d k) ≡ finish q (at (base s) d k)) → Commented text m p q
    note_over h e = record {
      goes = λ s d k. v.goes s d k ∙ alike_end (at (n s) d k) (at (base s) d k) text q h (e s d k);
      onward = v.onward;
    }

    pub note_breaks : q < length text
        → ((s : Base) (d : ℕ) (k : List Frame) → move q (at (n s) d k) (get_or text q 0) ≡ (Conf.fail (NotGrammar q), [])) → Breaks text m p q
    note_breaks h e s d k = v.goes s d k ∙ stop_quietly (at (n s) d k) text q (NotGrammar q) h (e s d k)

    pub note_unended : length text ≤ q → ((s : Base) (d : ℕ) (k : List Frame) → finish q (at (n s) d k) ≡ Machine.No (NotGrammar q)) → Breaks text m p q
    note_unended h e s d k = v.goes s d k ∙ halt_quietly (at (n s) d k) text q (NotGrammar q) h (e s d k)

    -- a comment of the mode n goes on from the mode m
    pub note_then : {r : ℕ} → Commented text n q r → Commented text m p r
    note_then w = record { goes = λ s d k. v.goes s d k ∙ w.goes s d k; onward = then v.onward w.onward }

    pub note_then_breaks : {r : ℕ} → Breaks text n q r → Breaks text m p r
    note_then_breaks w s d k = v.goes s d k ∙ w s d k

-- the mode of a block comment, after a star or not
abbrev pub blocked : Bool → Base → Mode
blocked true = star
blocked false = block

-- a comment, or layout, that begins in the mode `base`
module _ {text : List ℕ} {p : ℕ} (h : p < length text) where
  pub hash_opens : get_or text p 0 ≡ ch "#" → Noting text base line p (p + 1)
  hash_opens e = record {
    goes = λ s d k. go (at (base s) d k) (at (line s) d k) text p h (on_hash s p d k (get_or text p 0) (rw e));
    onward = further (here text p (omega arith)) h;
  }

  pub slash_opens : get_or text p 0 ≡ ch "/" → Noting text base slash p (p + 1)
  slash_opens e = record {
    goes = λ s d k. go (at (base s) d k) (at (slash s) d k) text p h (on_slash_lem s p d k (get_or text p 0) (rw e));
    onward = further (here text p (omega arith)) h;
  }

-- ---- all of it

pub record Laying (text : List ℕ) (p q : ℕ) : Type 0 where
  pub goes : Passes text p q
  pub onward : Onward text p q
  pub stopped : q < length text → class_of (get_or text q 0) ≡ blank_c → ⊥

module _ {text : List ℕ} {p q : ℕ} where
  pub laying : Blanks text p q → Laying text p q
  laying v = record { goes = v.goes; onward = v.onward; stopped = v.stopped }

  pub layout_stop : Laying text p q → (class_of (get_or text q 0) ≡ hash_c → ⊥) → (class_of (get_or text q 0) ≡ slash_c → ⊥) → LayoutEnds text p q
  layout_stop v i j = record {
    goes = v.goes;
    onward = v.onward;
    bare = record { no_blank = v.stopped; no_hash = λ g. i; no_slash = λ g. j };
  }

-- ---- in a line comment

line_note : (n : Note) → (n ≡ line_end → ⊥) → (n ≡ control_n → ⊥) → (p d : ℕ) (k : List Frame) (s : Base) → Machine.on_line p d k s n ≡ at (line s) d k
line_note line_end i j p d k s = absurd (i refl)
line_note star_n i j p d k s = refl
line_note slash_n i j p d k s = refl
line_note plain_n i j p d k s = refl
line_note control_n i j p d k s = absurd (j refl)

pub line_leads : (text : List ℕ) (q : ℕ) → (note_of (get_or text q 0) ≡ line_end → ⊥) → (note_of (get_or text q 0) ≡ control_n → ⊥) → Leads text line line q
line_leads text q i j s d k = both (line_note (note_of (get_or text q 0)) i j q d k s) refl

-- ---- in a block comment

-- what a byte does after a star or not
abbrev on_blocked : Bool → ℕ → ℕ → List Frame → Base → Note → Conf
on_blocked true = Machine.on_star
on_blocked false = Machine.on_block

module _ (b p d : ℕ) (k : List Frame) (s : Base) where
  block_note : (f : Bool) (n : Note) → NoteIs b n → ((f ≡ true) × (n ≡ slash_n) → ⊥) → (n ≡ control_n → ⊥)
      → on_blocked f p d k s n ≡ at (blocked (eqb b (ch "*")) s) d k
  block_note true line_end x i j = rw (ne_eqb b (ch "*") (omega arith))
  block_note true star_n x i j = rw x
  block_note true slash_n x i j = absurd (i (refl, refl))
  block_note true plain_n x i j = rw (ne_eqb b (ch "*") x.1)
  block_note true control_n x i j = absurd (j refl)
  block_note false line_end x i j = rw (ne_eqb b (ch "*") (omega arith))
  block_note false star_n x i j = rw x
  block_note false slash_n x i j = rw (ne_eqb b (ch "*") (omega arith))
  block_note false plain_n x i j = rw (ne_eqb b (ch "*") x.1)
  block_note false control_n x i j = absurd (j refl)

-- a block comment goes on, after a star if the byte is one
pub block_leads : (text : List ℕ) (q : ℕ) (f : Bool) → ((f ≡ true) × (note_of (get_or text q 0) ≡ slash_n) → ⊥) → (note_of (get_or text q 0) ≡ control_n → ⊥)
    → Leads text (blocked f) (blocked (eqb (get_or text q 0) (ch "*"))) q
block_leads text q true i j s d k = both (block_note (get_or text q 0) q d k s true (note_of (get_or text q 0)) (note_is_lem (get_or text q 0)) i j) refl
block_leads text q false i j s d k = both (block_note (get_or text q 0) q d k s false (note_of (get_or text q 0)) (note_is_lem (get_or text q 0)) i j) refl

module _ (text : List ℕ) (q : ℕ) where
  pub slash_closes : (f : Bool) → f ≡ true → note_of (get_or text q 0) ≡ slash_n → Leads text (blocked f) base q
  slash_closes f h e s d k = rw (h, e)

  pub control_breaks : (f : Bool) → note_of (get_or text q 0) ≡ control_n
      → (s : Base) (d : ℕ) (k : List Frame) → move q (at (blocked f s) d k) (get_or text q 0) ≡ (Conf.fail (NotGrammar q), [])
  control_breaks true e s d k = rw e
  control_breaks false e s d k = rw e

pub block_open : (f : Bool) (q : ℕ) (s : Base) (d : ℕ) (k : List Frame) → finish q (at (blocked f s) d k) ≡ Machine.No (NotGrammar q)
block_open true q s d k = refl
block_open false q s d k = refl

-- ---- after a slash

module _ {text : List ℕ} {p : ℕ} (h : p < length text) where
  pub slash_line : get_or text p 0 ≡ ch "/" → Noting text slash line p (p + 1)
  slash_line e = note_more (noting slash p (omega arith)) line h (λ s d k. rw e)

  pub slash_block : get_or text p 0 ≡ ch "*" → Noting text slash block p (p + 1)
  slash_block e = note_more (noting slash p (omega arith)) block h (λ s d k. rw e)

slash_note : (b : ℕ) (n : Note) → NoteIs b n → (b ≡ ch "/" → ⊥) → (b ≡ ch "*" → ⊥) → (p : ℕ) (s : Base) (d : ℕ) (k : List Frame)
    → Machine.on_slash p d k s n ≡ Conf.fail (NotGrammar p)
slash_note b line_end x i j p s d k = refl
slash_note b star_n x i j p s d k = absurd (j x)
slash_note b slash_n x i j p s d k = absurd (i x)
slash_note b plain_n x i j p s d k = refl
slash_note b control_n x i j p s d k = refl

pub slash_breaks : (text : List ℕ) (p : ℕ) → p < length text → (get_or text p 0 ≡ ch "/" → ⊥) → (get_or text p 0 ≡ ch "*" → ⊥) → Breaks text slash p p
slash_breaks text p h i j =
    note_breaks (noting slash p (omega arith)) h
    (λ s d k. both (slash_note (get_or text p 0) (note_of (get_or text p 0)) (note_is_lem (get_or text p 0)) i j p s d k) refl)

-- a comment goes on where another mode leads into it
module _ {text : List ℕ} {m n : Base → Mode} {p q : ℕ} (v : Noting text m n p q) where
  pub says_then : (r : Result ℕ Broken.NotGrammar) → CommentSays text n q r → CommentSays text m p r
  says_then (Ok t) w = note_then v w
  says_then (Err e) w = note_then_breaks v w

module _ {text : List ℕ} {n : Base → Mode} {p : ℕ} (v : Noting text base n p (p + 1)) where
  pub maybe_then : {q : ℕ} → Commented text n (p + 1) q → Commented text base p q × (p < q)
  maybe_then w = (note_then v w, omega (arith, w.onward.behind))
