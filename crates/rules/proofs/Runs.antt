-- What the loops over ASCII have passed. Assumes nothing.
use mathlib.Core.Path.{◌≡◌, refl, sym, ap, ◌∙◌, subst}
use mathlib.Core.List.{List}
use Prim.Native.Nat.{ℕ, zero, suc, ◌+◌, ◌-◌, ◌≤◌, ◌<◌}
use native.Mathlib.Decide.{dec_lt, ℕ_discrete}
use native.Mathlib.Nat.{le_antisymm}
use native.Mathlib.Omega.{arith}
use lib.ListN.{length, get_or, take, drop, take-append-drop, length-drop}
use lib.Seq.{take-suc, take-add, take-length, length-take-le}
use Rattle.rules.specs.Rfc3629.{utf8_1, NoChar, Octets, none, Fault, Judged, done}
use Rattle.std.specs.Option.{ok_or}
use Rattle.std.specs.declared.option.Option.{Option}
use Rattle.std.specs.declared.option.Option.TheVariants.{Some, None}
use Rattle.std.specs.declared.result.Result.{Result}
use Rattle.std.specs.declared.result.Result.TheVariants.{Ok, Err}
use Rattle.rules.specs.declared.IllFormed.{IllFormed}
use Rattle.rules.specs.Between.Posts.{AtMost, Ascii, Passed, CharAt, char, gap}
use Rattle.rules.proofs.Characters.{join, one}

pub ascii_none : (s : List ℕ) (from : ℕ) → from ≤ length s → Ascii s from from
ascii_none s from h = record { behind = omega arith; within = h; each = λ k a b. absurd (omega arith) }

pub ascii_more : (s : List ℕ) (from to : ℕ) → Ascii s from to → to < length s → get_or s to 0 < 0x80 → Ascii s from (to + 1)
ascii_more s from to a h b =
    record { behind = omega arith; within = omega arith; each = λ k l m. go k l m (ℕ_discrete k to) }
  where
    go : (k : ℕ) → from ≤ k → k < to + 1 → Dec (k ≡ to) → get_or s k 0 < 0x80
    go k l m (yes e) = rw e b
    go k l m (no e) = a.each k l (omega arith)

-- a run after a run
pub ascii_join : (s : List ℕ) (from mid to : ℕ) → Ascii s from mid → Ascii s mid to → Ascii s from to
ascii_join s from mid to a b = record { behind = omega arith; within = b.within; each = λ k l m. go k l m (dec_lt k mid) }
  where
    go : (k : ℕ) → from ≤ k → k < to → Dec (k < mid) → get_or s k 0 < 0x80
    go k l m (yes h) = a.each k l h
    go k l m (no h) = b.each k (omega arith) m

-- a block whose greatest byte is ASCII
pub ascii_block : (s : List ℕ) (at r : ℕ) → at + 32 ≤ length s → AtMost s at 32 r → r < 0x80 → Ascii s at (at + 32)
ascii_block s at r h m b =
    record {
      behind = omega arith;
      within = h;
      each = λ k l n. let e : at + (k - at) ≡ k = omega arith in omega (arith, rw e at (m.each (k - at) (omega arith)));
    }

-- ---- from runs and characters to UTF-8

-- UTF-8 up to a place, and n bytes of ASCII from there
octets_bytes : (s : List ℕ) (n from : ℕ) → Octets (take from s) → ((k : ℕ) → from ≤ k → k < from + n → get_or s k 0 < 0x80) → from + n ≤ length s
    → Octets (take (from + n) s)
octets_bytes s zero from o each h = let e : from + 0 ≡ from = omega arith in rw e o
octets_bytes s (suc n) from o each h =
    let e : from + suc n ≡ suc from + n = omega arith in
    let b : get_or s from 0 < 0x80 = each from (omega arith) (omega arith) in
    let x : Octets (take (suc from) s) = rw (take-suc s from 0 (omega arith)) (join o (one (utf8_1 {a = get_or s from 0} (omega arith)))) in
    rw e (octets_bytes s n (suc from) x (λ k l m. each k (omega arith) (omega arith)) (omega arith))

octets_run : (s : List ℕ) (from to : ℕ) → Octets (take from s) → Ascii s from to → Octets (take to s)
octets_run s from to o a =
    let e : from + (to - from) ≡ to = omega arith in
    rw e at (octets_bytes s (to - from) from o (λ k l m. a.each k l (omega arith)) (omega arith))

pub passed_none : (s : List ℕ) → Passed s 0
passed_none s = record { within = omega arith; good = none }

-- ASCII after what has been passed
pub passed_ascii : (s : List ℕ) (i to : ℕ) → Passed s i → Ascii s i to → Passed s to
passed_ascii s i to p a = record { within = a.within; good = octets_run s i to p.good a }

pub passed_run : (s : List ℕ) (i to : ℕ) → Passed s i → i < length s → get_or s i 0 < 0x80 → Ascii s (i + 1) to → Passed s to
passed_run s i to p h b a = passed_ascii s i to p (ascii_join s i (i + 1) to (ascii_more s i i (ascii_none s i p.within) h b) a)

pub char_room : {s : List ℕ} {i n : ℕ} → CharAt s i (Some n) → (0 < n) × (i + n ≤ length s)
char_room (char p f x) = (p, f)

pub passed_char : (s : List ℕ) (i n : ℕ) → Passed s i → CharAt s i (Some n) → Passed s (i + n)
passed_char s i n p (char q f x) = record { within = f; good = rw (take-add i n s) (join p.good (one x)) }

fault : (s : List ℕ) (i : ℕ) → Passed s i → i < length s → NoChar (drop i s) → Fault s i
fault s i p h g =
    record {
      before = take i s;
      rest = drop i s;
      split = sym (take-append-drop i s);
      place = sym (length-take-le i s p.within);
      good = p.good;
      left = rw (length-drop i s) (omega arith);
      bad = g;
    }

pub fault_at_lem : (s : List ℕ) (i : ℕ) → Passed s i → i < length s → CharAt s i None → Fault s i
fault_at_lem s i p h (gap g) = fault s i p h g

-- what `ok_or` makes of a character's length
pub char_ok : {s : List ℕ} {i n : ℕ} (e : IllFormed) (o : Option ℕ) {r : Result ℕ IllFormed} → CharAt s i o → r ≡ ok_or o e → r ≡ Ok n → CharAt s i (Some n)
char_ok {s} {i} {n} e (Some m) x p q = let z : m ≡ n = cc in rw z at x
char_ok e None x p q = let z : ◌≡◌ {A = ℕ} 0 1 = cc in absurd (omega arith)

pub char_err : {s : List ℕ} {i : ℕ} (d : IllFormed) (o : Option ℕ) {r : Result ℕ IllFormed} → Passed s i → i < length s → CharAt s i o
    → r ≡ ok_or o (record { place = i }) → r ≡ Err d → Fault s d.place
char_err d (Some m) p h x q e = let z : ◌≡◌ {A = ℕ} 0 1 = cc in absurd (omega arith)
char_err {s} {i} d None p h x q e = let z : d.place ≡ i = cc in rw z (fault_at_lem s i p h x)

pub all_passed : (s : List ℕ) (i : ℕ) → Passed s i → length s ≤ i → Judged s (Ok tt)
all_passed s i p h = done (subst Octets (ap (λ (k : ℕ). take k s) (le_antisymm p.within h) ∙ take-length s) p.good) refl
