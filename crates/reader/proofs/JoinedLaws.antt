-- Parts joined by a plus. Assumes nothing.
use mathlib.Core.Path.{◌≡◌, refl, sym, ap, ◌∙◌}
use mathlib.Core.List.{List, [], ◌++◌}
use Prim.Native.Nat.{ℕ, ◌+◌, ◌-◌, ◌≤◌, ◌<◌}
use native.Mathlib.Omega.{arith}
use lib.ListN.{length, drop, get_or, take, length-append, length-drop}
use lib.Seq.{sets, take_all}
use borrow.Author.Tests.{ne_eqb}
use Rattle.meaning.specs.declared.Refusal.{Refusal}
use Rattle.meaning.specs.declared.Refusal.TheVariants.{NotGrammar}
use Rattle.meaning.specs.Letters.{ch}
use Rattle.machine.specs.Scan.{Out, breaks, ended, broke, ran}
use Rattle.machine.specs.Machine.{Use, Item, string_part, binary_part, Got, string, binary, Base, want_string, want_binary, got}
use Rattle.machine.specs.Machine.{Mode, base, item, Frame, Conf, at, step, finish, on_part, on_out, odd, Bracket, square, curly}
use Rattle.machine.specs.Machine.{Class, class_of, blank_c, hash_c, slash_c, comma_c, colon_c, plus_c, quote_c, dollar_c}
use Rattle.machine.specs.Machine.{letter_n, letter_t, letter_f, letter_c, other_c, open_c, close_c, as_value_of, as_key_of, on_got}
use Rattle.machine.specs.Machine as Machine
use Rattle.machine.specs.Heard.{Heard, at_got, at_colon}
use Rattle.machine.specs.Strings
use Rattle.machine.specs.Binaries
use Rattle.reader.specs.Between.Scanning.{Goes, Refuses, Bare}
use Rattle.reader.specs.Between.Layout.{LayoutEnds, Breaks}
use Rattle.items.specs.Between.PlacedPart.{Ended}
use Rattle.items.specs.Between.StringPart.{PartSays}
use Rattle.reader.specs.Between.Joined.{Plusless, Plus, FollowsSays, Stray, BytesSays, string_part_of, binary_part_of, whole_binary}
use Rattle.reader.specs.Between.Joined.{PartKind, string_parts, binary_parts, State, scan_of, begin_of, Uses, part_of, whole_of}
use Rattle.std.specs.Prelude.{Ok, Err}
use Rattle.items.specs.Between.NumberOrTime.{taken}
use Rattle.reader.specs.declared.joined.Join.{Join}
use Rattle.reader.proofs.ScanningLaws.{both, go, alike, then_refused, faulted}
use Rattle.machine.proofs.Classes.{ClassIs, class_is_lem}
use Rattle.machine.proofs.Lift.{string_quiet, binary_quiet}
use Rattle.reader.proofs.ScanningItemLaws.{lift_done, lift_refused}
use Rattle.items.proofs.StoreLaws.{sets_app}

-- ---- what follows a part

class_plus : (b : ℕ) (c : Class) → ClassIs b c → c ≡ plus_c → b ≡ ch "+"
class_plus b c x e = rw e at x

pub not_plus : (b : ℕ) → (b ≡ ch "+" → ⊥) → class_of b ≡ plus_c → ⊥
not_plus b i e = i (class_plus b (class_of b) (class_is_lem b) e)

module _ (text : List ℕ) (p q : ℕ) (v : LayoutEnds text p q) where
  pub alone_end : length text ≤ q → FollowsSays text p (Join.Last q)
  alone_end h = record { goes = v.goes; onward = v.onward; bare = v.bare; plusless = λ g. absurd (omega arith) }

  pub alone : (get_or text q 0 ≡ ch "+" → ⊥) → FollowsSays text p (Join.Last q)
  alone n = record { goes = v.goes; onward = v.onward; bare = v.bare; plusless = λ g. not_plus (get_or text q 0) n }

  module _ (h : q < length text) (e : get_or text q 0 ≡ ch "+") where
    plussed : (g : Got) (s : Base) → Plus g s → (d : ℕ) (k : List Frame) → Goes text (at (base (got g)) d k) p (at (base s) d k) (q + 1)
    plussed g s f d k = v.goes (got g) d k ∙ go (at (base (got g)) d k) (at (base s) d k) text q h (both (rw e (f q d k)) (rw e))

    pub plus_breaks : (r : ℕ) → Breaks text base (q + 1) r → Stray text p (NotGrammar r)
    plus_breaks r w g s f d k = plussed g s f d k ∙ w s d k

    pub plus_next : (r : ℕ) → LayoutEnds text (q + 1) r → FollowsSays text p (Join.Next r)
    plus_next r w = record {
      goes = λ g s f d k. plussed g s f d k ∙ w.goes s d k;
      past = omega (arith, v.onward.behind, w.onward.behind);
      within = w.onward.within;
      bare = w.bare;
    }

pub join_breaks : (text : List ℕ) (p q : ℕ) → Breaks text base p q → Stray text p (NotGrammar q)
join_breaks text p q w g s f d k = w (got g) d k

-- joined parts that no plus follows do what their value, or their key, does
module _ (g w : Got) (v : as_value_of g ≡ as_value_of w) (u : as_key_of g ≡ as_key_of w) where
  whole_class : (p d : ℕ) (k : List Frame) (c : Class) → (c ≡ blank_c → ⊥) → (c ≡ hash_c → ⊥) → (c ≡ slash_c → ⊥) → (c ≡ plus_c → ⊥)
      → ◌≡◌ {A = Conf × List Heard} (on_got p d k g c, at_got g c) (on_got p d k w c, at_got w c)
  whole_class p d k blank_c a b e f = absurd (a refl)
  whole_class p d k hash_c a b e f = absurd (b refl)
  whole_class p d k slash_c a b e f = absurd (e refl)
  whole_class p d k plus_c a b e f = absurd (f refl)
  whole_class p d k comma_c a b e f = both (ap (Machine.need_value p (Machine.comma_after p d k)) v) refl
  whole_class p d k colon_c a b e f = both (ap (Machine.need_key p (Machine.colon_after p d k)) u) (ap at_colon u)
  whole_class p d k quote_c a b e f = refl
  whole_class p d k dollar_c a b e f = refl
  whole_class p d k letter_n a b e f = refl
  whole_class p d k letter_t a b e f = refl
  whole_class p d k letter_f a b e f = refl
  whole_class p d k letter_c a b e f = refl
  whole_class p d k other_c a b e f = refl
  whole_class p d k (open_c c) a b e f = refl
  whole_class p d k (close_c c) a b e f = both (ap (Machine.need_value p (Machine.close_after p d c k)) v) refl

  pub whole_is : (text : List ℕ) (p : ℕ) → Bare text p → Plusless text p → (d : ℕ) (k : List Frame)
      → Goes text (at (base (got g)) d k) p (at (base (got w)) d k) p
  whole_is text p b n d k = alike (at (base (got g)) d k) (at (base (got w)) d k) text p
      (λ h. whole_class p d k (class_of (get_or text p 0)) (b.no_blank h) (b.no_hash h) (b.no_slash h) (n h)) (λ h. ap (Machine.complete p k) v)

-- ---- a part at its place

pub part_here : (text : List ℕ) (p : ℕ) → take (length text - p) (drop p text) ≡ drop p text
part_here text p = take_all (length text - p) (drop p text) (simp length-drop (omega arith))

pub part_length : (text : List ℕ) (p : ℕ) → length (take (length text - p) (drop p text)) ≡ length text - p
part_length text p = ap length (part_here text p) ∙ simp length-drop refl

module _ (text : List ℕ) (p start : ℕ) (entry : List ℕ) (h : p ≤ length text) where
  pub part_closed : (exit : List ℕ) (taken n : ℕ) → PartSays (take (length text - p) (drop p text)) start entry exit (Ok (record { value = n; end = taken }))
      → Ended Strings.scan Strings.begin text p start entry exit (p + taken) n
  part_closed exit taken n w =
      let l = part_length text p in
      record {
        u = w.value;
        runs = ap (ran Strings.scan p Strings.begin) (sym (part_here text p)) ∙ w.runs p;
        meant = record { counted = w.counted; filled = w.stored; room = omega (arith, w.fewer, w.counted); past = omega (arith, w.fewer) };
        within = omega (arith, w.within);
      }

-- ---- what strings and binary have in common

pub record Kind (S : Type 0) (scan : ℕ → S → ℕ → Out S (List ℕ)) (begin : S) (A : Type 0) (part : A → List ℕ → Item) (whole : A → List ℕ → Got) : Type 0 where
  pub closes : (text : List ℕ) (a : A) (u x : List ℕ) (p q d : ℕ) (k : List Frame) → ran scan p begin (drop p text) ≡ ended x q
      → Goes text (at (item (part a u)) d k) p (at (base (got (whole a (u ++ x)))) d k) q
  pub refuses : (text : List ℕ) (a : A) (u : List ℕ) (p d : ℕ) (k : List Frame) (why : Refusal) → ran scan p begin (drop p text) ≡ broke why
      → Refuses text (at (item (part a u)) d k) p why
  pub wants : A → List ℕ → Base
  pub joins : (a : A) (u : List ℕ) → Plus (whole a u) (wants a u)
  pub opens : (text : List ℕ) (a : A) (u : List ℕ) (p : ℕ) → Bare text p → (d : ℕ) (k : List Frame)
      → Goes text (at (base (wants a u)) d k) p (at (item (part a u)) d k) p

string_none : (p b : ℕ) → (b ≡ ch "\"" → ⊥) → (b ≡ ch "'" → ⊥) → Strings.scan p Strings.begin b ≡ breaks (NotGrammar p)
unfolding Strings.scan
string_none p b i j = rw (ne_eqb _ _ i, ne_eqb _ _ j)

binary_none : (p b : ℕ) → (b ≡ ch "$" → ⊥) → Binaries.scan p Binaries.begin b ≡ breaks (NotGrammar p)
unfolding Binaries.scan
binary_none p b i = rw (ne_eqb _ _ i)

module _ (p d : ℕ) (k : List Frame) (z : Use) (u : List ℕ) where
  string_odd : (b : ℕ) → (b ≡ ch "\"" → ⊥) → (b ≡ ch "'" → ⊥) → odd p ≡ step p (at (item (string_part_of z u)) d k) b
  string_odd b i j = sym (ap (λ (o : Out Strings.St (List ℕ)). on_out p d k b (Machine.lift (string_part z u) (λ x. string z (u ++ x)) o))
      (string_none p b i j))

  string_class : (b : ℕ) (c : Class) → ClassIs b c → (c ≡ blank_c → ⊥) → (c ≡ hash_c → ⊥) → (c ≡ slash_c → ⊥)
      → on_part p d k b (want_string z u) (step p (at (item (string_part_of z u)) d k) b) (odd p) c ≡ step p (at (item (string_part_of z u)) d k) b
  string_class b blank_c x i j l = absurd (i refl)
  string_class b hash_c x i j l = absurd (j refl)
  string_class b slash_c x i j l = absurd (l refl)
  string_class b quote_c x i j l = refl
  string_class b comma_c x i j l = string_odd b (omega arith) (omega arith)
  string_class b colon_c x i j l = string_odd b (omega arith) (omega arith)
  string_class b plus_c x i j l = string_odd b (omega arith) (omega arith)
  string_class b dollar_c x i j l = string_odd b (omega arith) (omega arith)
  string_class b letter_n x i j l = string_odd b (omega arith) (omega arith)
  string_class b letter_t x i j l = string_odd b (omega arith) (omega arith)
  string_class b letter_f x i j l = string_odd b (omega arith) (omega arith)
  string_class b letter_c x i j l = string_odd b (omega arith) (omega arith)
  string_class b other_c x i j l = string_odd b x.4 x.5
  string_class b (open_c square) x i j l = string_odd b (omega arith) (omega arith)
  string_class b (open_c curly) x i j l = string_odd b (omega arith) (omega arith)
  string_class b (close_c square) x i j l = string_odd b (omega arith) (omega arith)
  string_class b (close_c curly) x i j l = string_odd b (omega arith) (omega arith)

module _ (p d : ℕ) (k : List Frame) (u : List ℕ) where
  binary_odd : (b : ℕ) → (b ≡ ch "$" → ⊥) → odd p ≡ step p (at (item (binary_part_of tt u)) d k) b
  binary_odd b i = sym (ap (λ (o : Out Binaries.St (List ℕ)). on_out p d k b (Machine.lift (binary_part u) (λ x. binary (u ++ x)) o)) (binary_none p b i))

  binary_class : (b : ℕ) (c : Class) → ClassIs b c → (c ≡ blank_c → ⊥) → (c ≡ hash_c → ⊥) → (c ≡ slash_c → ⊥)
      → on_part p d k b (want_binary u) (odd p) (step p (at (item (binary_part_of tt u)) d k) b) c ≡ step p (at (item (binary_part_of tt u)) d k) b
  binary_class b blank_c x i j l = absurd (i refl)
  binary_class b hash_c x i j l = absurd (j refl)
  binary_class b slash_c x i j l = absurd (l refl)
  binary_class b quote_c x i j l = binary_odd b (λ e. (let z : ◌≡◌ {A = ℕ} 0 1 = absurd (omega (arith, x.1 (omega arith))) in omega arith))
  binary_class b comma_c x i j l = binary_odd b (omega arith)
  binary_class b colon_c x i j l = binary_odd b (omega arith)
  binary_class b plus_c x i j l = binary_odd b (omega arith)
  binary_class b dollar_c x i j l = refl
  binary_class b letter_n x i j l = binary_odd b (omega arith)
  binary_class b letter_t x i j l = binary_odd b (omega arith)
  binary_class b letter_f x i j l = binary_odd b (omega arith)
  binary_class b letter_c x i j l = binary_odd b (omega arith)
  binary_class b other_c x i j l = binary_odd b x.3
  binary_class b (open_c square) x i j l = binary_odd b (omega arith)
  binary_class b (open_c curly) x i j l = binary_odd b (omega arith)
  binary_class b (close_c square) x i j l = binary_odd b (omega arith)
  binary_class b (close_c curly) x i j l = binary_odd b (omega arith)

pub strings : Kind Strings.St Strings.scan Strings.begin Use string_part_of string
unfolding Strings.scan
strings = record {
  closes = λ text z u x p q d k e. lift_done Strings.scan (string_part z u) (λ y. string z (u ++ y)) (λ p s b. refl) d k text p Strings.begin x q e;
  refuses = λ text z u p d k why e. lift_refused Strings.scan (string_part z u) (λ y. string z (u ++ y)) (λ p s b. refl) d k text p Strings.begin why e;
  wants = want_string;
  joins = λ z u o d k. refl;
  opens = λ text z u p b d k. alike (at (base (want_string z u)) d k) (at (item (string_part_of z u)) d k) text p
      (λ h. both (string_class p d k z u (get_or text p 0) (class_of (get_or text p 0)) (class_is_lem (get_or text p 0))
      (b.no_blank h) (b.no_hash h) (b.no_slash h)) (sym (string_quiet z u p (get_or text p 0)))) (λ h. refl);
}

pub binaries : Kind Binaries.St Binaries.scan Binaries.begin (Unit {0}) binary_part_of whole_binary
unfolding Binaries.scan
binaries = record {
  closes = λ text z u x p q d k e. lift_done Binaries.scan (binary_part u) (λ y. binary (u ++ y)) (λ p s b. refl) d k text p Binaries.begin x q e;
  refuses = λ text z u p d k why e. lift_refused Binaries.scan (binary_part u) (λ y. binary (u ++ y)) (λ p s b. refl) d k text p Binaries.begin why e;
  wants = λ z u. want_binary u;
  joins = λ z u o d k. refl;
  opens = λ text z u p b d k. alike (at (base (want_binary u)) d k) (at (item (binary_part_of z u)) d k) text p
      (λ h. both (binary_class p d k u (get_or text p 0) (class_of (get_or text p 0)) (class_is_lem (get_or text p 0))
      (b.no_blank h) (b.no_hash h) (b.no_slash h)) (sym (binary_quiet u p (get_or text p 0)))) (λ h. refl);
}

pub kinds : (i : PartKind) → Kind (State i) (scan_of i) (begin_of i) (Uses i) (part_of i) (whole_of i)
kinds string_parts = strings
kinds binary_parts = binaries

-- ---- the loop: the parts so far, and the next begins

pub record Parts (A : Type 0) (part : A → List ℕ → Item) (text : List ℕ) (from start : ℕ) (entry store : List ℕ) (p out : ℕ) : Type 0 where
  pub u : List ℕ
  pub runs : (a : A) (d : ℕ) (k : List Frame) → Goes text (at (item (part a [])) d k) from (at (item (part a u)) d k) p
  pub filled : store ≡ sets entry start u
  pub placed : out ≡ start + length u
  pub room : from + length u ≤ p
  pub within : p ≤ length text

pub no_part : (A : Type 0) (part : A → List ℕ → Item) (text : List ℕ) (from start : ℕ) (entry : List ℕ) → from ≤ length text
    → Parts A part text from start entry entry from start
no_part A part text from start entry h = record { u = []; runs = λ a d k. refl; filled = refl; placed = omega arith; room = omega arith; within = h }

module _ {S : Type 0} {scan : ℕ → S → ℕ → Out S (List ℕ)} {begin : S} {A : Type 0} {part : A → List ℕ → Item} {whole : A → List ℕ → Got}
    (kind : Kind S scan begin A part whole)
    {text : List ℕ} {from start : ℕ} {entry store : List ℕ} {p out : ℕ} (v : Parts A part text from start entry store p out) where
  pub parts_refused : (exit : List ℕ) (why : Refusal) → ran scan p begin (drop p text) ≡ broke why → BytesSays A part whole text from start entry exit (Err why)
  parts_refused exit why e = λ a d k. then_refused (v.runs a d k) (kind.refuses text a v.u p d k why e)

  module _ {exit : List ℕ} {q n : ℕ} (w : Ended scan begin text p out store exit q n) where
    to_whole : (a : A) (d : ℕ) (k : List Frame) → Goes text (at (item (part a [])) d k) from (at (base (got (whole a (v.u ++ w.u)))) d k) q
    to_whole a d k = v.runs a d k ∙ kind.closes text a v.u w.u p q d k w.runs

    both_filled : exit ≡ sets entry start (v.u ++ w.u)
    both_filled = w.meant.filled ∙ rw (sets_app, ← v.filled, ← v.placed)

    -- what follows the part is refused
    pub parts_stray : (why : Refusal) → Stray text q why → BytesSays A part whole text from start entry exit (Err why)
    parts_stray why f = λ a d k.
        let u = v.u ++ w.u in
        then_refused (to_whole a d k) (faulted (f (whole a u) (kind.wants a u) (kind.joins a u) d k))

    -- the bytes so far are no more than the text
    pub parts_short : start ≤ from → out + n ≤ length text
    parts_short h = omega (arith, v.placed, v.room, w.meant.counted, w.meant.room, w.within)

    pub parts_last : {r : ℕ} (m : ℕ) → m + start ≡ out + n → FollowsSays text q (Join.Last r)
        → BytesSays A part whole text from start entry exit (Ok (taken m r))
    parts_last m e j =
        record {
          u = v.u ++ w.u;
          runs = λ a d k. to_whole a d k ∙ j.goes (got (whole a (v.u ++ w.u))) d k;
          meant = record {
            counted = simp length-append (omega (arith, v.placed, w.meant.counted));
            filled = both_filled;
            room = simp length-append (omega (arith, v.room, w.meant.room, j.onward.behind));
            past = omega (arith, v.room, w.meant.past, j.onward.behind);
          };
          within = j.onward.within;
          bare = j.bare;
          plusless = j.plusless;
        }

    module _ {r : ℕ} (j : FollowsSays text q (Join.Next r)) where
      pub parts_next : Parts A part text from start entry exit r (out + n)
      parts_next =
          let u = v.u ++ w.u in
          record {
            u = v.u ++ w.u;
            runs = λ a d k. to_whole a d k ∙ j.goes (whole a u) (kind.wants a u) (kind.joins a u) d k ∙ kind.opens text a u r j.bare d k;
            filled = both_filled;
            placed = simp length-append (omega (arith, v.placed, w.meant.counted));
            room = simp length-append (omega (arith, v.room, w.meant.room, j.past));
            within = j.within;
          }

      pub parts_further : length text - r < length text - p
      parts_further = omega (arith, w.meant.past, j.past, j.within)
