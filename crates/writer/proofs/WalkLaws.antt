-- The loops over the records of a well-formed tape, state by state. Assumes nothing.
use mathlib.Core.Path.{◌≡◌, refl, sym, ap, ◌∙◌, subst}
use mathlib.Core.Bool.{Bool, true, false}
use mathlib.Core.List.{List, [], ◌∷◌, ◌++◌, append_assoc, append-nil}
use Prim.Native.Nat.{ℕ, ◌+◌, ◌-◌, ◌≤◌, ◌<◌, ◌^◌}
use native.Mathlib.Omega.{arith}
use Rattle.std.specs.Prelude.{Some, None}
use lib.ListN.{length, get_or, drop, set, length-set}
use Rattle.meaning.specs.declared.Record.{Record}
use Rattle.meaning.specs.Limits.{depth_limit, record_limit, store_limit}
use Rattle.meaning.specs.Meaning.{Meaning}
use Rattle.meaning.specs.Tape.{records, store_of, records_of, WellFormed}
use Rattle.meaning.specs.Look.{OwnFields, whole_records, RecordAt}
use Rattle.meaning.specs.Canonical.{canonical}
use Rattle.meaning.specs.Json.{json_form, first_without, no_json}
use Rattle.meaning.proofs.Sizes.{records_length}
use Rattle.meaning.proofs.Whole.{one_meaning, well_formed_length}
use Rattle.meaning.proofs.Look.{well_formed_record}
use Rattle.meaning.proofs.Json.{json_on, json_stop, json_end, json_whole}
use Rattle.meaning.proofs.Text.{canonical_below}
use Rattle.tape.specs.Between.Standing.{RecordIs}
use Rattle.tape.specs.Between.Turns.{bytes_end}
use Rattle.writer.specs.declared.Effect.{Effect}
use Rattle.writer.specs.Between.Laid.{PutAt}
use Rattle.writer.specs.Between.Walk.{printed, comma_text, effect_of, share, TextFits, TextLength, TextPut, at, nowhere, FirstFormless}
use Rattle.writer.proofs.LaidLaws.{put_as, put_whole, Writing, begin, writing_as, writing_put, writing_room, writing_length, finish}
use Rattle.writer.proofs.WalkLengthLaws.{shares, shares_at, shares_end, value_shares}
use Rattle.writer.proofs.WalkTextLaws.{Stack, bottom, frames, frames_height, frames_push, frames_pop, frames_none}
use Rattle.writer.proofs.WalkTextLaws.{Prints, Takes, Closes, prints_all, prints_done, prints_close, prints_take}

own_bytes : (r : Record) (i whole : ℕ) (store : List ℕ) → OwnFields r i whole store → bytes_end r ≤ length store
own_bytes Record.Null i whole store o = omega arith
own_bytes (Record.Bool b) i whole store o = omega arith
own_bytes (Record.Number n) i whole store o = omega arith
own_bytes (Record.Str size start) i whole store o = o.0
own_bytes (Record.Key size start) i whole store o = o.0
own_bytes (Record.Bin size start) i whole store o = o
own_bytes (Record.Time t) i whole store o = omega arith
own_bytes (Record.Array count end) i whole store o = omega arith
own_bytes (Record.Object count end) i whole store o = omega arith

abbrev records_in : {tape store : List ℕ} → WellFormed tape store → List Record
records_in w = records_of w.meaning 0 0

module _ (tape store : List ℕ) (w : WellFormed tape store) where
  pub whole_is : whole_records tape ≡ length (records_in w)
  whole_is = omega (arith, well_formed_length tape store w, records_length w.meaning 0 0)

  pub few_records : whole_records tape ≤ record_limit
  few_records = omega (arith, whole_is, records_length w.meaning 0 0, w.few)

  pub store_small : length store ≤ store_limit
  store_small = omega (arith, ap length w.stored, w.short)

  text_small : length (canonical w.meaning) < 2 ^ 30
  text_small = canonical_below w.meaning w.good.parts w.few w.short

  there : (i : ℕ) → i < whole_records tape → RecordAt tape store i (get_or (records_in w) i Record.Null)
  there i h = well_formed_record tape store w i (omega (arith, whole_is, records_length w.meaning 0 0))

  -- the record that was read is the meaning's
  pub read_is : (i : ℕ) (r : Record) → i < whole_records tape → RecordIs tape i r → r ≡ get_or (records_in w) i Record.Null
  read_is i r h d = d.is store (get_or (records_in w) i Record.Null) (there i h)

  pub read_bytes : (i : ℕ) (r : Record) → i < whole_records tape → RecordIs tape i r → bytes_end r ≤ length store
  read_bytes i r h d =
      let s = get_or (records_in w) i Record.Null in
      subst (λ (x : Record). bytes_end x ≤ length store) (sym (read_is i r h d)) (own_bytes s i (whole_records tape) store (there i h).own)

-- ---- the length

pub record Summing (tape store : List ℕ) (total i : ℕ) : Type 0 where
  pub well : WellFormed tape store
  pub sum : total + shares (drop i (records_in well)) i store ≡ length (canonical well.meaning) + 1

module _ (tape store : List ℕ) where
  pub sum_begin : WellFormed tape store → Summing tape store 0 0
  sum_begin w =
      record {
        well = w;
        sum = omega (arith, value_shares store w.meaning 0 0 [] [] (w.stored ∙ sym (append-nil (store_of w.meaning))) refl);
      }

  module _ {total i : ℕ} (s : Summing tape store total i) where
    pub sum_more : (r : Record) (n : ℕ) → i < whole_records tape → RecordIs tape i r → n ≡ share r i store → Summing tape store (total + n) (i + 1)
    sum_more r n h d e =
        let w = s.well in
        let q : n ≡ share (get_or (records_in w) i Record.Null) i store = e ∙ ap (λ (x : Record). share x i store) (read_is tape store w i r h d) in
        record { well = w; sum = omega (arith, s.sum, shares_at (records_in w) i store (omega (arith, whole_is tape store w))) }

    pub sum_small : total < 2 ^ 31
    sum_small = omega (arith, s.sum, text_small tape store s.well)

    sum_end : whole_records tape ≤ i → total ≡ length (canonical s.well.meaning) + 1
    sum_end h = omega (arith, s.sum, shares_end (records_in s.well) i store (omega (arith, whole_is tape store s.well)))

    pub sum_some : whole_records tape ≤ i → 1 ≤ total
    sum_some h = omega (arith, sum_end h)

    pub sum_is : whole_records tape ≤ i → TextLength tape store (total - 1)
    sum_is h =
        record {
          is = λ w. let e : total - 1 ≡ length (canonical s.well.meaning) = omega (arith, sum_end h) in
              e ∙ ap (λ (m : Meaning). length (canonical m)) (one_meaning tape store s.well w);
        }

-- ---- the first record with no JSON form

pub record Searching (tape store : List ℕ) (i : ℕ) : Type 0 where
  pub so_far : (w : WellFormed tape store) → no_json w.meaning ≡ first_without (drop i (records_in w)) i

module _ (tape store : List ℕ) where
  pub search_begin : Searching tape store 0
  search_begin = record { so_far = λ w. json_whole w.meaning }

  module _ {i : ℕ} (s : Searching tape store i) where
    module _ (r : Record) (h : i < whole_records tape) (d : RecordIs tape i r) where
      form : (w : WellFormed tape store) {b : Bool} → json_form r ≡ b → json_form (get_or (records_in w) i Record.Null) ≡ b
      form w e = sym (ap json_form (read_is tape store w i r h d)) ∙ e

      pub search_on : json_form r ≡ true → Searching tape store (i + 1)
      search_on e = record { so_far = λ w. s.so_far w ∙ json_on (records_in w) i (omega (arith, whole_is tape store w)) (form w e) }

      pub search_stop : json_form r ≡ false → FirstFormless tape store (Some i)
      search_stop e = record { is = λ w. at (s.so_far w ∙ json_stop (records_in w) i (omega (arith, whole_is tape store w)) (form w e)) }

    pub search_end : whole_records tape ≤ i → FirstFormless tape store None
    search_end h = record { is = λ w. nowhere (s.so_far w ∙ json_end (records_in w) i (omega (arith, whole_is tape store w))) }

-- ---- the text

depth_limit_lem : depth_limit ≡ 64
unfolding depth_limit
depth_limit_lem = refl

-- the locals of the walk: what was written, and what comes
pub record Walking (tape store o out ends closers : List ℕ) (depth end closer : ℕ) (comma : Bool) (place i : ℕ) : Type 0 where
  pub well : WellFormed tape store
  pub rest : List ℕ
  pub prints : Prints (records_in well) store i comma end closer (frames depth ends closers) rest
  pub writing : Writing (canonical well.meaning) rest 0 o out place
  pub deep : depth ≤ 64
  pub ends_size : length ends ≡ 64
  pub closers_size : length closers ≡ 64

module _ (tape store o : List ℕ) where
  pub walk_begin : (ends closers : List ℕ) → TextFits tape store (length o) → length ends ≡ 64 → length closers ≡ 64
      → Walking tape store o o ends closers 0 (whole_records tape) 0 false 0 0
  walk_begin ends closers f e c =
      let w = f.well in
      let m = w.meaning in
      let n : records m ≡ whole_records tape = omega (arith, whole_is tape store w, records_length m 0 0) in
      let p =
      subst (λ (x : ℕ). Prints (records_in w) store 0 false x 0 bottom (canonical m)) n
      (prints_all m store w.stored w.good.shallow) in
      record {
        well = w;
        rest = canonical m;
        prints = subst (λ (s : Stack). Prints (records_in w) store 0 false (whole_records tape) 0 s (canonical m)) (sym (frames_none 0 ends closers refl)) p;
        writing = begin (canonical m) 0 o (omega (arith, f.fits));
        deep = omega arith;
        ends_size = e;
        closers_size = c;
      }

module _ {tape store o out ends closers : List ℕ} {depth end closer : ℕ} {comma : Bool} {place i : ℕ}
    (s : Walking tape store o out ends closers depth end closer comma place i)
  where
    pub walk_length : length out ≡ length o
    walk_length = writing_length s.writing

    -- the last record is behind, and nothing is open
    pub walk_done : i ≡ end → depth ≡ 0 → TextPut tape store o out place
    walk_done h d =
        let e = prints_done (records_in s.well) store s.prints h (frames_none depth ends closers d) in
        record {
          is = λ w. put_as (ap canonical (one_meaning tape store s.well w)) (put_whole (finish (writing_as e s.writing)));
        }

    -- a container ends
    module _ (h : i ≡ end) (d : depth ≡ 0 → ⊥) where
      ends_here : Closes (records_in s.well) store i closer (get_or ends (depth - 1) 0) (get_or closers (depth - 1) 0) (frames (depth - 1) ends closers)
          s.rest
      ends_here = prints_close (records_in s.well) store _ _ _ s.prints h (frames_pop depth ends closers (omega arith))

      closing : Writing (canonical s.well.meaning) ((closer ∷ []) ++ ends_here.rest) 0 o out place
      closing = writing_as ends_here.text s.writing

      pub walk_byte : place < length out
      walk_byte = omega (arith, writing_room (closer ∷ []) ends_here.rest closing)

      pub walk_close : {out' : List ℕ} {r : ℕ} → PutAt (closer ∷ []) place out out' r
          → Walking tape store o out' ends closers (depth - 1) (get_or ends (depth - 1) 0) (get_or closers (depth - 1) 0) true r i
      walk_close p =
          record {
            well = s.well;
            rest = ends_here.rest;
            prints = ends_here.next;
            writing = writing_put (closer ∷ []) closing p;
            deep = omega (arith, s.deep);
            ends_size = s.ends_size;
            closers_size = s.closers_size;
          }

    -- a record comes
    module _ (h : i ≡ end → ⊥) where
      takes : Takes (records_in s.well) store i comma end closer (frames depth ends closers) s.rest
      takes = prints_take (records_in s.well) store s.prints h

      pub walk_inside : i < whole_records tape
      walk_inside = omega (arith, takes.inside, whole_is tape store s.well)

      abbrev here : Record
      here = get_or (records_in s.well) i Record.Null

      comes : Writing (canonical s.well.meaning) (comma_text comma ++ (printed here store ++ takes.rest)) 0 o out place
      comes = writing_as (takes.text ∙ append_assoc (comma_text comma) (printed here store) takes.rest) s.writing

      pub walk_comma : place + length (comma_text comma) ≤ length out
      walk_comma = writing_room (comma_text comma) (printed here store ++ takes.rest) comes

      pub walk_bytes : {r : Record} → RecordIs tape i r → bytes_end r ≤ length store
      walk_bytes {r} d = read_bytes tape store s.well i r walk_inside d

      module _ {mid : List ℕ} {p : ℕ} (a : PutAt (comma_text comma) place out mid p) {r : Record} (d : RecordIs tape i r) where
        read : here ≡ r
        read = sym (read_is tape store s.well i r walk_inside d)

        after_comma : Writing (canonical s.well.meaning) (printed r store ++ takes.rest) 0 o mid p
        after_comma = writing_as (ap (λ (x : Record). printed x store ++ takes.rest) read) (writing_put (comma_text comma) comes a)

        pub walk_piece : p + length (printed r store) ≤ length mid
        walk_piece = writing_room (printed r store) takes.rest after_comma

        module _ {out' : List ℕ} {q : ℕ} (b : PutAt (printed r store) p mid out' q) {t : Effect} (e : t ≡ effect_of r) where
          turned : effect_of here ≡ t
          turned = ap effect_of read ∙ sym e

          pub walk_pass : {due : Bool} → t ≡ Effect.Pass due → Walking tape store o out' ends closers depth end closer due q (i + 1)
          walk_pass {due} f =
              record {
                well = s.well;
                rest = takes.rest;
                prints = takes.passed due (turned ∙ f);
                writing = writing_put (printed r store) after_comma b;
                deep = s.deep;
                ends_size = s.ends_size;
                closers_size = s.closers_size;
              }

          module _ {bracket last : ℕ} (f : t ≡ Effect.Open bracket last) where
            pub walk_shallow : depth < 64
            walk_shallow = omega (arith, (takes.entered bracket last (turned ∙ f)).0, frames_height depth ends closers, depth_limit_lem)

            pub walk_open : Walking tape store o out' (set ends depth end) (set closers depth closer) (depth + 1) last bracket false q (i + 1)
            walk_open =
                let l = walk_shallow in
                record {
                  well = s.well;
                  rest = takes.rest;
                  prints =
                      subst (λ (x : Stack). Prints (records_in s.well) store (i + 1) false last bracket x takes.rest)
                      (sym (frames_push depth ends closers end closer (omega (arith, s.ends_size)) (omega (arith, s.closers_size))))
                      (takes.entered bracket last (turned ∙ f)).1;
                  writing = writing_put (printed r store) after_comma b;
                  deep = omega arith;
                  ends_size = length-set ends depth end ∙ s.ends_size;
                  closers_size = length-set closers depth closer ∙ s.closers_size;
                }
