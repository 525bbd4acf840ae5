-- UTF-8 while it arrives: the tests of a byte, one byte after another, and the first fault as `judged` has it. Assumes nothing.
use Prim.Native.Nat.{ℕ, zero, suc, ◌+◌, ◌-◌, ◌≤◌, ◌<◌}
use mathlib.Core.Path.{◌≡◌, refl, sym, ap, ◌∙◌, subst}
use mathlib.Core.Logic.{◌⊎◌, inl, inr, ⊎_elim}
use mathlib.Core.Bool.{Bool, true, false, cond}
use mathlib.Core.List.{List, [], ◌∷◌, ◌++◌, append_assoc}
use native.Mathlib.Omega.{arith}
use native.Mathlib.Decide.{dec_lt, ℕ_discrete}
use native.Mathlib.Numerals.{add-one}
use lib.Dec.{eqb}
use lib.ListN.{length, get_or, take, drop, length-drop, drop_of_length-le, take-append-drop}
use lib.Seq.{drop-cons, drop_at, length-take-le, take_all}
use Rattle.std.proofs.lemmas.List.{nil_from_length}
use borrow.Author.Tests.{lt-ltb, le-ltb, le-leb, lt-leb, eq-eqb, ne_eqb}
use Rattle.rules.specs.Rfc3629.{In, Tail, Char, utf8_1, utf8_2, utf8_3a, utf8_3b, utf8_3c, utf8_3d, utf8_4a, utf8_4b, utf8_4c}
use Rattle.rules.specs.Rfc3629.{Octets, none, more, NoChar, Fault, Judged, done, ill}
use Rattle.rules.specs.Paper.{utf8_said}
use Rattle.rules.specs.Between.Decided.{judged}
use Rattle.std.specs.Prelude.{Result, Ok, Err}
use Rattle.rules.specs.declared.IllFormed.{IllFormed}
use Rattle.rules.proofs.Decided.{judged_is}
use Rattle.rules.proofs.Outcomes.{same_utf8_answer}
use Rattle.arriving.specs.declared.octets.Utf.{Utf}
use Rattle.arriving.specs.Between.Octets.{between, fault_at, opens, lead_of_three, lead_of_four, leads, follow, next_utf, fed_utf, Rests}

-- ---- the tests of a first byte

module _ (p b : ℕ) where
  pub three_e0 : b ≡ 0xE0 → lead_of_three p b ≡ opens 2 0xA0 0xBF p
  unfolding lead_of_three
  three_e0 e = simp (eq-eqb b 0xE0 e)

  pub three_ed : (b ≡ 0xE0 → ⊥) → b ≡ 0xED → lead_of_three p b ≡ opens 2 0x80 0x9F p
  unfolding lead_of_three
  three_ed f e = simp (ne_eqb b 0xE0 f, eq-eqb b 0xED e)

  pub three_else : (b ≡ 0xE0 → ⊥) → (b ≡ 0xED → ⊥) → lead_of_three p b ≡ opens 2 0x80 0xBF p
  unfolding lead_of_three
  three_else f g = simp (ne_eqb b 0xE0 f, ne_eqb b 0xED g)

  pub four_f0 : b ≡ 0xF0 → lead_of_four p b ≡ opens 3 0x90 0xBF p
  unfolding lead_of_four
  four_f0 e = simp (eq-eqb b 0xF0 e)

  pub four_f3 : (b ≡ 0xF0 → ⊥) → b ≤ 0xF3 → lead_of_four p b ≡ opens 3 0x80 0xBF p
  unfolding lead_of_four
  four_f3 f h = simp (ne_eqb b 0xF0 f, le-leb b 0xF3 h)

  pub four_f4 : b ≡ 0xF4 → lead_of_four p b ≡ opens 3 0x80 0x8F p
  unfolding lead_of_four
  four_f4 e = simp (ne_eqb b 0xF0 (λ q. omega arith), lt-leb b 0xF3 (omega arith), eq-eqb b 0xF4 e)

  pub four_else : 0xF4 < b → lead_of_four p b ≡ fault_at p
  unfolding lead_of_four
  four_else h = simp (ne_eqb b 0xF0 (λ q. omega arith), lt-leb b 0xF3 (omega arith), ne_eqb b 0xF4 (λ q. omega arith))

  pub lead_ascii : b < 0x80 → leads p b ≡ between
  unfolding leads
  lead_ascii h = simp (lt-ltb b 0x80 h)

  pub lead_none : 0x80 ≤ b → b < 0xC2 → leads p b ≡ fault_at p
  unfolding leads
  lead_none l h = simp (le-ltb b 0x80 l, lt-ltb b 0xC2 h)

  pub lead_two : 0xC2 ≤ b → b < 0xE0 → leads p b ≡ opens 1 0x80 0xBF p
  unfolding leads
  lead_two l h = simp (le-ltb b 0x80 (omega arith), le-ltb b 0xC2 l, lt-ltb b 0xE0 h)

  pub lead_three : 0xE0 ≤ b → b < 0xF0 → leads p b ≡ lead_of_three p b
  unfolding leads
  lead_three l h = simp (le-ltb b 0x80 (omega arith), le-ltb b 0xC2 (omega arith), le-ltb b 0xE0 l, lt-ltb b 0xF0 h)

  pub lead_four : 0xF0 ≤ b → leads p b ≡ lead_of_four p b
  unfolding leads
  lead_four l = simp (le-ltb b 0x80 (omega arith), le-ltb b 0xC2 (omega arith), le-ltb b 0xE0 (omega arith), le-ltb b 0xF0 l)

-- ---- the tests of a later byte

module _ (u : Utf) (b : ℕ) where
  pub tail_under : b < u.low → follow u b ≡ fault_at u.first
  unfolding follow
  tail_under h = simp (lt-ltb b u.low h)

  pub tail_over : u.high < b → follow u b ≡ fault_at u.first
  unfolding follow
  tail_over h = go (dec_lt b u.low)
    where
      go : Dec (b < u.low) → follow u b ≡ fault_at u.first
      go (yes l) = simp (lt-ltb b u.low l)
      go (no l) = simp (le-ltb b u.low (omega arith), lt-ltb u.high b h)

  pub tail_last : u.low ≤ b → b ≤ u.high → u.left ≤ 1 → follow u b ≡ between
  unfolding follow
  tail_last l h n = simp (le-ltb b u.low l, le-ltb u.high b h, le-leb u.left 1 n)

  pub tail_more : u.low ≤ b → b ≤ u.high → 1 < u.left → follow u b ≡ opens (u.left - 1) 0x80 0xBF u.first
  unfolding follow
  tail_more l h n = simp (le-ltb b u.low l, le-ltb u.high b h, lt-leb u.left 1 n)

-- ---- a byte

module _ (u : Utf) (p b : ℕ) where
  pub next_broken : u.broken ≡ true → next_utf u p b ≡ u
  unfolding next_utf
  next_broken e = simp e

  pub next_lead : u.broken ≡ false → u.left ≡ 0 → next_utf u p b ≡ leads p b
  unfolding next_utf
  next_lead e z = simp (e, eq-eqb u.left 0 z)

  pub next_tail : u.broken ≡ false → (u.left ≡ 0 → ⊥) → next_utf u p b ≡ follow u b
  unfolding next_utf
  next_tail e f = simp (e, ne_eqb u.left 0 f)

-- ---- bytes

-- a fault stays
pub fed_broken : (u : Utf) (p : ℕ) (t : List ℕ) → u.broken ≡ true → fed_utf u p t ≡ u
unfolding fed_utf
fed_broken u p [] e = refl
fed_broken u p (b ∷ t) e = ap (λ (v : Utf). fed_utf v (suc p) t) (next_broken u p b e) ∙ fed_broken u (suc p) t e

pub fed_join : (u : Utf) (p : ℕ) (s t : List ℕ) → fed_utf u p (s ++ t) ≡ fed_utf (fed_utf u p s) (p + length s) t
unfolding fed_utf
fed_join u p [] t = ap (λ (q : ℕ). fed_utf u q t) (omega arith)
fed_join u p (b ∷ s) t = fed_join (next_utf u p b) (suc p) s t ∙ ap (λ (q : ℕ). fed_utf (fed_utf (next_utf u p b) (suc p) s) q t) (omega arith)

-- one byte of a part, at the place i
pub fed_at : (u : Utf) (p : ℕ) (s : List ℕ) (i : ℕ) → i < length s
    → fed_utf u (p + i) (drop i s) ≡ fed_utf (next_utf u (p + i) (get_or s i 0)) (p + (i + 1)) (drop (i + 1) s)
unfolding fed_utf
fed_at u p s i h =
    let v = next_utf u (p + i) (get_or s i 0) in
    ap (fed_utf u (p + i)) (drop-cons s i 0 h) ∙ ap (λ (n : ℕ). fed_utf v (suc (p + i)) (drop n s)) (sym (add-one i))
    ∙ ap (λ (q : ℕ). fed_utf v q (drop (i + 1) s)) (omega arith)

-- past a part's end
pub fed_end : (u : Utf) (p : ℕ) (s : List ℕ) (i : ℕ) → length s ≤ i → fed_utf u p (drop i s) ≡ u
unfolding fed_utf
fed_end u p s i h = ap (fed_utf u p) (drop_of_length-le s h)

-- a round over a part's bytes
pub fed_round : (u v : Utf) (p : ℕ) (s : List ℕ) (i : ℕ) → i < length s → v ≡ next_utf u (p + i) (get_or s i 0)
    → fed_utf v (p + (i + 1)) (drop (i + 1) s) ≡ fed_utf u (p + i) (drop i s)
fed_round u v p s i h e = ap (λ (w : Utf). fed_utf w (p + (i + 1)) (drop (i + 1) s)) e ∙ sym (fed_at u p s i h)

-- ---- characters

-- the first byte of a character, by its row
module _ (p a : ℕ) where
  first_1 : a < 0x80 → next_utf between p a ≡ between
  first_1 h = next_lead between p a refl refl ∙ lead_ascii p a h

  first_2 : 0xC2 ≤ a → a < 0xE0 → next_utf between p a ≡ opens 1 0x80 0xBF p
  first_2 l h = next_lead between p a refl refl ∙ lead_two p a l h

  first_e0 : a ≡ 0xE0 → next_utf between p a ≡ opens 2 0xA0 0xBF p
  first_e0 e = next_lead between p a refl refl ∙ lead_three p a (omega arith) (omega arith) ∙ three_e0 p a e

  first_ed : a ≡ 0xED → next_utf between p a ≡ opens 2 0x80 0x9F p
  first_ed e = next_lead between p a refl refl ∙ lead_three p a (omega arith) (omega arith) ∙ three_ed p a (λ q. omega arith) e

  first_3 : 0xE0 < a → a < 0xF0 → (a ≡ 0xED → ⊥) → next_utf between p a ≡ opens 2 0x80 0xBF p
  first_3 l h f = next_lead between p a refl refl ∙ lead_three p a (omega arith) h ∙ three_else p a (λ q. omega arith) f

  first_f0 : a ≡ 0xF0 → next_utf between p a ≡ opens 3 0x90 0xBF p
  first_f0 e = next_lead between p a refl refl ∙ lead_four p a (omega arith) ∙ four_f0 p a e

  first_4 : 0xF0 < a → a ≤ 0xF3 → next_utf between p a ≡ opens 3 0x80 0xBF p
  first_4 l h = next_lead between p a refl refl ∙ lead_four p a (omega arith) ∙ four_f3 p a (λ q. omega arith) h

  first_f4 : a ≡ 0xF4 → next_utf between p a ≡ opens 3 0x80 0x8F p
  first_f4 e = next_lead between p a refl refl ∙ lead_four p a (omega arith) ∙ four_f4 p a e

  first_none : 0x80 ≤ a → a < 0xC2 → next_utf between p a ≡ fault_at p
  first_none l h = next_lead between p a refl refl ∙ lead_none p a l h

  first_over : 0xF4 < a → next_utf between p a ≡ fault_at p
  first_over h = next_lead between p a refl refl ∙ lead_four p a (omega arith) ∙ four_else p a h

-- the next byte of an open character lies within its bounds
module _ (l h q p b : ℕ) (x : In l h b) where
  within_last : next_utf (opens 1 l h q) p b ≡ between
  within_last = next_tail (opens 1 l h q) p b refl (λ z. omega arith) ∙ tail_last (opens 1 l h q) b x.low x.high (omega arith)

  within_more : (n : ℕ) → next_utf (opens (suc (suc n)) l h q) p b ≡ opens (suc n) 0x80 0xBF q
  within_more n =
      next_tail (opens (suc (suc n)) l h q) p b refl (λ z. omega arith) ∙ tail_more (opens (suc (suc n)) l h q) b x.low x.high (omega arith)
      ∙ ap (λ (k : ℕ). opens k 0x80 0xBF q) (omega arith)

fed_one : (u v : Utf) (p b : ℕ) (t : List ℕ) → next_utf u p b ≡ v → fed_utf u p (b ∷ t) ≡ fed_utf v (suc p) t
unfolding fed_utf
fed_one u v p b t e = ap (λ (w : Utf). fed_utf w (suc p) t) e

fed_nil : (u : Utf) (p : ℕ) → fed_utf u p [] ≡ u
unfolding fed_utf
fed_nil u p = refl

module _ (l h q : ℕ) where
  ends_1 : (p b : ℕ) → In l h b → fed_utf (opens 1 l h q) p (b ∷ []) ≡ between
  ends_1 p b x = fed_one (opens 1 l h q) between p b [] (within_last l h q p b x) ∙ fed_nil between (suc p)

ends_2 : (l h q p b c : ℕ) → In l h b → Tail c → fed_utf (opens 2 l h q) p (b ∷ c ∷ []) ≡ between
ends_2 l h q p b c x y = fed_one (opens 2 l h q) (opens 1 0x80 0xBF q) p b (c ∷ []) (within_more l h q p b x 0) ∙ ends_1 0x80 0xBF q (suc p) c y

ends_3 : (l h q p b c d : ℕ) → In l h b → Tail c → Tail d → fed_utf (opens 3 l h q) p (b ∷ c ∷ d ∷ []) ≡ between
ends_3 l h q p b c d x y z =
    fed_one (opens 3 l h q) (opens 2 0x80 0xBF q) p b (c ∷ d ∷ []) (within_more l h q p b x 1) ∙ ends_2 0x80 0xBF q (suc p) c d y z

pub fed_char : {c : List ℕ} → Char c → (p : ℕ) → fed_utf between p c ≡ between
fed_char (utf8_1 {a = a} x) p = fed_one between _ p a [] (first_1 p a (omega arith)) ∙ fed_nil between (suc p)
fed_char (utf8_2 {a = a} {b = b} x y) p = fed_one between _ p a _ (first_2 p a (omega arith) (omega arith)) ∙ ends_1 _ _ p (suc p) b y
fed_char (utf8_3a {b = b} {c = c} x y) p = fed_one between _ p 0xE0 _ (first_e0 p 0xE0 refl) ∙ ends_2 _ _ p (suc p) b c x y
fed_char (utf8_3b {a = a} {b = b} {c = c} w x y) p =
    fed_one between _ p a _ (first_3 p a (omega arith) (omega arith) (λ q. omega arith)) ∙ ends_2 _ _ p (suc p) b c x y
fed_char (utf8_3c {b = b} {c = c} x y) p = fed_one between _ p 0xED _ (first_ed p 0xED refl) ∙ ends_2 _ _ p (suc p) b c x y
fed_char (utf8_3d {a = a} {b = b} {c = c} w x y) p =
    fed_one between _ p a _ (first_3 p a (omega arith) (omega arith) (λ q. omega arith)) ∙ ends_2 _ _ p (suc p) b c x y
fed_char (utf8_4a {b = b} {c = c} {d = d} x y z) p = fed_one between _ p 0xF0 _ (first_f0 p 0xF0 refl) ∙ ends_3 _ _ p (suc p) b c d x y z
fed_char (utf8_4b {a = a} {b = b} {c = c} {d = d} w x y z) p =
    fed_one between _ p a _ (first_4 p a (omega arith) (omega arith)) ∙ ends_3 _ _ p (suc p) b c d x y z
fed_char (utf8_4c {b = b} {c = c} {d = d} x y z) p = fed_one between _ p 0xF4 _ (first_f4 p 0xF4 refl) ∙ ends_3 _ _ p (suc p) b c d x y z

-- over characters the state stays between two
pub fed_good : {s : List ℕ} → Octets s → (p : ℕ) → fed_utf between p s ≡ between
fed_good none p = fed_nil between p
fed_good (more {c = c} {t = t} x r) p =
    fed_join between p c t ∙ ap (λ (u : Utf). fed_utf u (p + length c) t) (fed_char x p) ∙ fed_good r (p + length c)

-- ---- a part in two: what an open character lacks, and the rest

-- after n bytes of s
pub cut : (u v : Utf) (p n : ℕ) (s : List ℕ) → n ≤ length s → v ≡ fed_utf u p (take n s) → fed_utf u p s ≡ fed_utf v (p + n) (drop n s)
cut u v p n s h e =
    ap (fed_utf u p) (sym (take-append-drop n s)) ∙ fed_join u p (take n s) (drop n s)
    ∙ ap (λ (k : ℕ). fed_utf (fed_utf u p (take n s)) (p + k) (drop n s)) (length-take-le n s h)
    ∙ ap (λ (w : Utf). fed_utf w (p + n) (drop n s)) (sym e)

-- a byte breaks an open character, or it lacks one less
filling : (u : Utf) (p b n : ℕ) → u.left ≡ suc n → ((next_utf u p b).broken ≡ true) ⊎ ((next_utf u p b).left ≡ n)
filling u p b n e = go u.broken refl (dec_lt b u.low) (dec_lt u.high b) (dec_lt 1 u.left)
  where
    breaks : (v : Utf) → next_utf u p b ≡ v → v.broken ≡ true → ((next_utf u p b).broken ≡ true) ⊎ ((next_utf u p b).left ≡ n)
    breaks v g h = inl (ap (λ (w : Utf). w.broken) g ∙ h)

    lacks : (v : Utf) → next_utf u p b ≡ v → v.left ≡ n → ((next_utf u p b).broken ≡ true) ⊎ ((next_utf u p b).left ≡ n)
    lacks v g h = inr (ap (λ (w : Utf). w.left) g ∙ h)

    go : (x : Bool) → u.broken ≡ x → Dec (b < u.low) → Dec (u.high < b) → Dec (1 < u.left) → ((next_utf u p b).broken ≡ true) ⊎ ((next_utf u p b).left ≡ n)
    go true g l h m = breaks u (next_broken u p b g) g
    go false g (yes l) h m = breaks _ (next_tail u p b g (λ z. omega arith) ∙ tail_under u b l) refl
    go false g (no l) (yes h) m = breaks _ (next_tail u p b g (λ z. omega arith) ∙ tail_over u b h) refl
    go false g (no l) (no h) (yes m) = lacks _ (next_tail u p b g (λ z. omega arith) ∙ tail_more u b (omega arith) (omega arith) m) (omega arith)
    go false g (no l) (no h) (no m) = lacks _ (next_tail u p b g (λ z. omega arith) ∙ tail_last u b (omega arith) (omega arith) (omega arith)) (omega arith)

-- all that an open character lacks has come: it is whole, or broken
pub filled : (u : Utf) (p : ℕ) (s : List ℕ) → length s ≡ u.left → (fed_utf u p s).broken ≡ false → (fed_utf u p s).left ≡ 0
unfolding fed_utf
filled u p [] e f = sym e
filled u p (b ∷ s) e f =
    ⊎_elim (λ g. differ (sym g ∙ sym (ap (λ (w : Utf). w.broken) (fed_broken (next_utf u p b) (suc p) s g)) ∙ f))
    (λ g. filled (next_utf u p b) (suc p) s (sym g) f) (filling u p b (length s) (sym e))
  where
    differ : {A : Type 0} → true ≡ false → A
    differ g = absurd (subst (λ (x : Bool). cond x Unit ⊥) g tt)

-- where no character is open, bytes do what they do from the start
pub fresh : (u : Utf) (p : ℕ) (t : List ℕ) → u.broken ≡ false → u.left ≡ 0 → 0 < length t → fed_utf u p t ≡ fed_utf between p t
unfolding fed_utf
fresh u p [] f z h = absurd (omega arith)
fresh u p (b ∷ t) f z h = ap (λ (w : Utf). fed_utf w (suc p) t) (next_lead u p b f z ∙ sym (next_lead between p b refl refl))

-- a part whose first n bytes, t, belong to the open character, what these come to, and the rest of the part
module _ (u v : Utf) (p n : ℕ) (s t rest : List ℕ) (r : Rests u (length s) n) (front : t ≡ take n s) (back : rest ≡ drop n s) (e : v ≡ fed_utf u p t) where
  first_is : length t ≡ n
  first_is = ap length front ∙ length-take-le n s r.within

  goes_on : fed_utf u p s ≡ fed_utf v (p + n) rest
  goes_on = cut u v p n s r.within (e ∙ ap (fed_utf u p) front) ∙ ap (fed_utf v (p + n)) (sym back)

  pub feed_short : length rest ≡ 0 → v ≡ fed_utf u p s
  unfolding fed_utf
  feed_short h = sym (goes_on ∙ ap (fed_utf v (p + n)) (nil_from_length rest h))

  pub feed_broken : v.broken ≡ true → v ≡ fed_utf u p s
  feed_broken h = sym (goes_on ∙ fed_broken v (p + n) rest h)

  -- there are more, and the character has ended
  module _ (more : (length rest ≡ 0) → ⊥) (whole : v.broken ≡ false) where
    ended : v.left ≡ 0
    ended =
        let l : length rest ≡ length s - n = ap length back ∙ length-drop n s in
        let q : length t ≡ u.left = first_is ∙ r.lacks (omega arith) in
        ap (λ (w : Utf). w.left) e ∙ filled u p t q (ap (λ (w : Utf). w.broken) (sym e) ∙ whole)

    from_start : fed_utf u p s ≡ fed_utf between (p + n) rest
    from_start = goes_on ∙ fresh v (p + n) rest whole ended (omega arith)

    pub feed_done : Octets rest → between ≡ fed_utf u p s
    feed_done o = sym (from_start ∙ fed_good o (p + n))

    -- k good bytes of the rest, and those from there on, as a slice has them
    pub feed_fault : (w : Utf) (k q : ℕ) → Fault rest k → w ≡ between → q ≡ p + length t + k
        → fed_utf w q (take (length rest - k) (drop k rest)) ≡ fed_utf u p s
    feed_fault w k q f i h =
        let a = f.before in
        let d : drop k rest ≡ f.rest = ap (drop k) f.split ∙ drop_at a f.rest k (sym f.place) in
        let g : fed_utf between (p + n) rest ≡ fed_utf between (p + n + length a) f.rest =
        ap (fed_utf between (p + n)) f.split ∙ fed_join between (p + n) a f.rest
        ∙ ap (λ (w : Utf). fed_utf w (p + n + length a) f.rest) (fed_good f.good (p + n)) in
        ap (λ (z : Utf). fed_utf z q (take (length rest - k) (drop k rest))) i
        ∙ ap (fed_utf between q) (take_all (length rest - k) (drop k rest) (simp length-drop (omega arith)) ∙ d)
        ∙ ap (λ (j : ℕ). fed_utf between j f.rest) (omega (arith, f.place, first_is)) ∙ sym (from_start ∙ g)

-- ---- the first fault is the one that `judged` has

-- the first fault is at this place
abbrev pub ill_at : ℕ → Result (Unit {0}) IllFormed
ill_at q = Err (record { place = q })

-- what the bytes come to, where no more follow
abbrev pub said : Utf → Result (Unit {0}) IllFormed
said u = cond u.broken (ill_at u.first) (cond (eqb u.left 0) (Ok tt) (ill_at u.first))

-- the bytes f are one character with n more after them, the next from l to h
abbrev Owed : ℕ → ℕ → ℕ → List ℕ → Type 0
Owed zero l h f = Char f
Owed (suc n) l h f = (b : ℕ) → In l h b → Owed n 0x80 0xBF (f ++ (b ∷ []))

-- a fault is met
met : (u : Utf) (p q b : ℕ) (t : List ℕ) → next_utf u p b ≡ fault_at q → said (fed_utf u p (b ∷ t)) ≡ ill_at q
met u p q b t e = ap said (fed_one u (fault_at q) p b t e ∙ fed_broken (fault_at q) (suc p) t refl)

-- a byte is out of its bounds, or within
bounded : (n l h q p b : ℕ) → (next_utf (opens (suc n) l h q) p b ≡ fault_at q) ⊎ In l h b
bounded n l h q p b = go (dec_lt b l) (dec_lt h b)
  where
    go : Dec (b < l) → Dec (h < b) → (next_utf (opens (suc n) l h q) p b ≡ fault_at q) ⊎ In l h b
    go (yes x) y = inl (next_tail (opens (suc n) l h q) p b refl (λ z. omega arith) ∙ tail_under (opens (suc n) l h q) b x)
    go (no x) (yes y) = inl (next_tail (opens (suc n) l h q) p b refl (λ z. omega arith) ∙ tail_over (opens (suc n) l h q) b y)
    go (no x) (no y) = inr (record { low = omega arith; high = omega arith })

-- no character stands at the place q, though one is open there: it breaks, or is cut off by the end
owed : (n l h q p : ℕ) (f t : List ℕ) → Owed (suc n) l h f → NoChar (f ++ t) → said (fed_utf (opens (suc n) l h q) p t) ≡ ill_at q
owed n l h q p f [] o c = ap said (fed_nil (opens (suc n) l h q) p) ∙ simp (ne_eqb (suc n) 0 (λ z. omega arith))
owed zero l h q p f (b ∷ t) o c =
    ⊎_elim (met (opens 1 l h q) p q b t) (λ x. absurd (c (f ++ (b ∷ [])) t (o b x) (sym (append_assoc f (b ∷ []) t)))) (bounded 0 l h q p b)
owed (suc n) l h q p f (b ∷ t) o c =
    ⊎_elim (met (opens (suc (suc n)) l h q) p q b t)
    (λ x. ap said (fed_one (opens (suc (suc n)) l h q) (opens (suc n) 0x80 0xBF q) p b t (within_more l h q p b x n))
    ∙ owed n 0x80 0xBF q (suc p) (f ++ (b ∷ [])) t (o b x) (subst NoChar (sym (append_assoc f (b ∷ []) t)) c)) (bounded (suc n) l h q p b)

-- no character stands at the place p
module _ (p b : ℕ) (t : List ℕ) (c : NoChar (b ∷ t)) where
  opened : (n l h : ℕ) → next_utf between p b ≡ opens (suc n) l h p → Owed (suc n) l h (b ∷ []) → said (fed_utf between p (b ∷ t)) ≡ ill_at p
  opened n l h e o = ap said (fed_one between (opens (suc n) l h p) p b t e) ∙ owed n l h p (suc p) (b ∷ []) t o c

  at_four : 0xF0 ≤ b → Dec (b ≡ 0xF0) → Dec (b ≡ 0xF4) → Dec (0xF4 < b) → said (fed_utf between p (b ∷ t)) ≡ ill_at p
  at_four h (yes e) x y = opened 2 _ _ (first_f0 p b e) (λ i u j v k w. rw e (utf8_4a u v w))
  at_four h (no f) (yes e) y = opened 2 _ _ (first_f4 p b e) (λ i u j v k w. rw e (utf8_4c u v w))
  at_four h (no f) (no g) (yes y) = met between p p b t (first_over p b y)
  at_four h (no f) (no g) (no y) = opened 2 _ _ (first_4 p b (omega arith) (omega arith)) (λ i u j v k w. utf8_4b (omega arith) u v w)

  at_three : 0xE0 ≤ b → b < 0xF0 → Dec (b ≡ 0xE0) → Dec (b ≡ 0xED) → Dec (b < 0xED) → said (fed_utf between p (b ∷ t)) ≡ ill_at p
  at_three l h (yes e) x y = opened 1 _ _ (first_e0 p b e) (λ i u j v. rw e (utf8_3a u v))
  at_three l h (no f) (yes e) y = opened 1 _ _ (first_ed p b e) (λ i u j v. rw e (utf8_3c u v))
  at_three l h (no f) (no g) (yes y) = opened 1 _ _ (first_3 p b (omega arith) h g) (λ i u j v. utf8_3b (omega arith) u v)
  at_three l h (no f) (no g) (no y) = opened 1 _ _ (first_3 p b (omega arith) h g) (λ i u j v. utf8_3d (omega arith) u v)

  at_first_lem : Dec (b < 0x80) → Dec (b < 0xC2) → Dec (b < 0xE0) → Dec (b < 0xF0) → said (fed_utf between p (b ∷ t)) ≡ ill_at p
  at_first_lem (yes h) x y z = absurd (c (b ∷ []) t (utf8_1 (omega arith)) refl)
  at_first_lem (no f) (yes h) y z = met between p p b t (first_none p b (omega arith) h)
  at_first_lem (no f) (no g) (yes h) z = opened 0 _ _ (first_2 p b (omega arith) h) (λ i u. utf8_2 (omega arith) u)
  at_first_lem (no f) (no g) (no k) (yes h) = at_three (omega arith) h (ℕ_discrete b 0xE0) (ℕ_discrete b 0xED) (dec_lt b 0xED)
  at_first_lem (no f) (no g) (no k) (no h) = at_four (omega arith) (ℕ_discrete b 0xF0) (ℕ_discrete b 0xF4) (dec_lt 0xF4 b)

pub fault_said : (p : ℕ) (t : List ℕ) → 0 < length t → NoChar t → said (fed_utf between p t) ≡ ill_at p
fault_said p [] h c = absurd (omega arith)
fault_said p (b ∷ t) h c = at_first_lem p b t c (dec_lt b 0x80) (dec_lt b 0xC2) (dec_lt b 0xE0) (dec_lt b 0xF0)

-- the whole text's bytes, in whatever parts (`fed_join`), come to the first fault that it has, or to none
pub octets_judged : (t : List ℕ) → said (fed_utf between 0 t) ≡ judged t
octets_judged t = go (judged_is t)
  where
    go : Judged t (judged t) → said (fed_utf between 0 t) ≡ judged t
    go (done o e) = same_utf8_answer (said (fed_utf between 0 t)) (judged t) (ap (λ (u : Utf). utf8_said (said u)) (fed_good o 0) ∙ sym e)
    go (ill {k = k} f e) =
        let n = length f.before in
        let g : fed_utf between 0 t ≡ fed_utf between (0 + n) f.rest =
        ap (fed_utf between 0) f.split ∙ fed_join between 0 f.before f.rest
        ∙ ap (λ (u : Utf). fed_utf u (0 + n) f.rest) (fed_good f.good 0) in
        let h : said (fed_utf between 0 t) ≡ ill_at k =
        ap said g ∙ fault_said (0 + n) f.rest f.left f.bad ∙ ap ill_at (omega (arith, f.place)) in
        same_utf8_answer (said (fed_utf between 0 t)) (judged t) (ap utf8_said h ∙ sym e)
