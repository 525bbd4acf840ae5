-- What the rules for numbers derive, the scanner takes. Assumes nothing.
use Prim.Native.Nat.{ℕ, suc, ◌+◌, ◌-◌, ◌<◌}
use mathlib.Core.Path.{◌≡◌, refl, sym, ◌∙◌, subst}
use mathlib.Core.Bool.{Bool, true, false, cond}
use mathlib.Core.List.{List, [], ◌∷◌, ◌++◌}
use native.Mathlib.Nat.{add-zero, zero-add}
use native.Mathlib.Omega.{arith}
use lib.Dec.{ltb}
use borrow.Author.Tests.{lt-ltb, eq-eqb}
use Rattle.meaning.specs.declared.Number as M
use Rattle.meaning.specs.declared.Refusal.TheVariants.{BadNumber}
use Rattle.meaning.specs.Limits.{coefficient_limit}
use Rattle.meaning.specs.Letters.{ch}
use Rattle.meaning.specs.Meaning.{Meaning}
use Rattle.grammar.specs.Checks.{Checked}
use Rattle.grammar.specs.Characters.{Digit, Hexdig, Digits, Decimal}
use Rattle.grammar.specs.Numbers.{Finite, Sign, Int, Frac0, Frac1, E, Exp, Dec, X, Unsigned, Number, raised, lowered}
use Rattle.machine.specs.Scan.{takes, stops, breaks}
use Rattle.machine.specs.Numeric.{St, Res, begin, sign, word, nought, int, point, frac, exp, exp_sign, exp_digits, hex_mark, hex, both, Len, d1, d2, d3, d4}
use Rattle.machine.specs.Numeric.{scan, scaled, settle}
use Rattle.machine.proofs.Runs.{EndsItem, Goes, GoesTo}
use Rattle.machine.proofs.Runs as Runs
use Rattle.machine.proofs.Numeric.Rows.{num_digit, dg_digit, exp_digit, fst_digit, hex_is, ending}
use Rattle.machine.proofs.Numeric.Value.{settle_to}

-- from s, at the place p, the scanner takes the bytes a, and what it then does has Q
abbrev pub Run : (Res → Type 0) → ℕ → St → List ℕ → Type 0
Run Q p s a = GoesTo scan Q EndsItem p s a

pub took : {Q : Res → Type 0} {p c : ℕ} {s s' : St} {a : List ℕ} → Run Q (suc p) s' a → scan p s c ≡ takes s' → Run Q p s (c ∷ a)
took k e = Runs.took_to scan k e

pub halts : {Q : Res → Type 0} {p : ℕ} {s : St} → ((b : ℕ) → EndsItem b → Q (scan p s b)) → Run Q p s []
halts k = Runs.halts_to scan k

-- the check of a hex number
abbrev pub settle_hex : ℕ → Bool → ℕ → Res
settle_hex q g v = cond (ltb v coefficient_limit) (settle q g v 0 0) (breaks (BadNumber q))

module _ (q : ℕ) (g : Bool) where
  module _ (m f : ℕ) {Q : Res → Type 0} where
    exp_digits_lem : (s : Bool) {n e v : ℕ} {a : List ℕ} → Decimal n e a v → Q (scaled q g m f s v) → (p : ℕ) → Run Q p (exp_digits q g m f s e) a
    exp_digits_lem s Digits.over h p = halts (λ b e. rw (ending e).no_dg h)
    exp_digits_lem s (Digits.next {b = b} (Digit.digit i) d) h p = took (exp_digits_lem s d h (suc p)) (rw (dg_digit b i))

    exp_signed : (s : Bool) {n v : ℕ} {a : List ℕ} → Decimal (suc n) 0 a v → Q (scaled q g m f s v) → (p : ℕ) → Run Q p (exp_sign q g m f s) a
    exp_signed s (Digits.next {b = b} (Digit.digit i) d) h p = took (exp_digits_lem s d h (suc p)) (rw (dg_digit b i))

    exp_unsigned : {n v : ℕ} {a : List ℕ} → Decimal (suc n) 0 a v → Q (scaled q g m f false v) → (p : ℕ) → Run Q p (exp q g m f) a
    exp_unsigned (Digits.next {b = b} (Digit.digit i) d) h p = took (exp_digits_lem false d h (suc p)) (rw (exp_digit b i))

    power : {s a : List ℕ} {t : Bool} {n e : ℕ} → Sign s t → Decimal (suc n) 0 a e → Q (settle q g m (raised t e) (f + lowered t e)) → (p : ℕ)
        → Run Q p (exp q g m f) (s ++ a)
    power Sign.unsigned d h p = exp_unsigned d h p
    power Sign.plus d h p = took (exp_signed false d h (suc p)) refl
    power Sign.minus d h p = took (exp_signed true d h (suc p)) refl

    frac_exp : {a : List ℕ} {up dn : ℕ} → Exp a up dn → Q (settle q g m up (f + dn)) → (p : ℕ) → Run Q p (frac q g m f) a
    frac_exp Exp.absent h p = halts (λ b e. rw (ending e).no_num (rw add-zero at h))
    frac_exp (Exp.given E.small s d) h p = took (power s d h (suc p)) refl
    frac_exp (Exp.given E.capital s d) h p = took (power s d h (suc p)) refl

  -- n more digits of a fraction
  frac_digits : {n m f k v : ℕ} {a r : List ℕ} {Q : Res → Type 0} → Decimal n m a v → f + n ≡ k → ((p : ℕ) → Run Q p (frac q g v k) r) → (p : ℕ)
      → Run Q p (frac q g m f) (a ++ r)
  frac_digits {f = f} {v = v} {r = r} {Q = Q} Digits.over e k p = subst (λ (x : ℕ). Run Q p (frac q g v x) r) (sym e ∙ add-zero f) (k p)
  frac_digits {f = f} (Digits.next {b = b} (Digit.digit i) d) e k p = took (frac_digits {f = suc f} d (omega arith) k (suc p)) (rw (num_digit b i))

  -- a state after an integer of the value m
  record Whole (s : St) (m : ℕ) : Type 0 where
    at_point : (p : ℕ) → scan p s (ch ".") ≡ takes (frac q g m 0)
    at_e : {b : ℕ} → E b → (p : ℕ) → scan p s b ≡ takes (exp q g m 0)
    at_end : {b : ℕ} → EndsItem b → (p : ℕ) → scan p s b ≡ settle q g m 0 0

  whole_exp : {s : St} {m : ℕ} → Whole s m → {a : List ℕ} {up dn : ℕ} {Q : Res → Type 0} → Exp a up dn → Q (settle q g m up (0 + dn)) → (p : ℕ) → Run Q p s a
  whole_exp i {Q = Q} Exp.absent h p = halts (λ b e. subst Q (sym (i.at_end e p)) h)
  whole_exp {m = m} i (Exp.given e s d) h p = took (power m 0 s d h (suc p)) (i.at_e e p)

  whole_tail : {s : St} {m : ℕ} → Whole s m → {a c : List ℕ} {v n up dn : ℕ} {Q : Res → Type 0} → Frac0 m a v n → Exp c up dn → Q (settle q g v up (n + dn))
      → (p : ℕ) → Run Q p s (a ++ c)
  whole_tail i Frac0.absent y h p = whole_exp i y h p
  whole_tail i (Frac0.given d) y h p = took (frac_digits {f = 0} d (omega arith) (frac_exp _ _ y h) (suc p)) (i.at_point p)

  int_whole : (m : ℕ) → Whole (int q g m) m
  int_whole m = record { at_point = λ p. refl; at_e = e; at_end = λ e p. rw (ending e).no_num }
    where
      e : {b : ℕ} → E b → (p : ℕ) → scan p (int q g m) b ≡ takes (exp q g m 0)
      e E.small p = refl
      e E.capital p = refl

  nought_whole : Whole (nought q g) 0
  nought_whole = record { at_point = λ p. refl; at_e = e; at_end = λ e p. rw (ending e).no_num }
    where
      e : {b : ℕ} → E b → (p : ℕ) → scan p (nought q g) b ≡ takes (exp q g 0 0)
      e E.small p = refl
      e E.capital p = refl

  int_digits : {n m v : ℕ} {a r : List ℕ} {Q : Res → Type 0} → Decimal n m a v → ((s : St) → Whole s v → (p : ℕ) → Run Q p s r) → (p : ℕ)
      → Run Q p (int q g m) (a ++ r)
  int_digits Digits.over k p = k _ (int_whole _) p
  int_digits (Digits.next {b = b} (Digit.digit i) d) k p = took (int_digits d k (suc p)) (rw (num_digit b i))

  hex_digits : {n v u : ℕ} {a : List ℕ} {Q : Res → Type 0} → Digits Hexdig 16 n v a u → Q (settle_hex q g u) → (p : ℕ) → Run Q p (hex q g v) a
  hex_digits Digits.over h p = halts (λ b e. rw (ending e).no_hex_lem h)
  hex_digits (Digits.next d y) h p = took (hex_digits y h (suc p)) (rw (hex_is d))

  -- after 0x
  mark_digits : {n u : ℕ} {a : List ℕ} {Q : Res → Type 0} → Digits Hexdig 16 (suc n) 0 a u → Q (settle_hex q g u) → (p : ℕ) → Run Q p (hex_mark q g) a
  mark_digits (Digits.next d y) h p = took (hex_digits y h (suc p)) (rw (hex_is d))

  -- after a point with no digit before it
  point_digits : {n m up dn : ℕ} {a c : List ℕ} {Q : Res → Type 0} → Decimal (suc n) 0 a m → Exp c up dn → Q (settle q g m up (suc n + dn)) → (p : ℕ)
      → Run Q p (point q g) (a ++ c)
  point_digits {n = n} (Digits.next {b = b} (Digit.digit i) d) e h p = took (frac_digits {f = 1} d (omega arith) (frac_exp _ (suc n) e h) (suc p))
      (rw (dg_digit b i))

word_run : {Q : Res → Type 0} (a : List ℕ) (w : M.Number) → Q (stops (Meaning.number w)) → (p : ℕ) → Run Q p (word a w) a
word_run [] w h p = halts (λ b e. h)
word_run (c ∷ a) w h p = took (word_run a w h (suc p)) (rw (eq-eqb c c refl))

dec_sign : {g : Bool} {a : List ℕ} {v up dn : ℕ} {Q : Res → Type 0} (p q : ℕ) → Dec a v up dn → Q (settle q g v up dn) → Run Q p (sign q g) a
dec_sign {g} p q (Dec.whole Int.zero_digit f e) h = took (whole_tail q g (nought_whole q g) f e h (suc p)) refl
dec_sign {g} p q (Dec.whole (Int.positive {b = b} i d) f e) h = took (int_digits q g d (λ s k. whole_tail q g k f e h) (suc p))
    (rw (fst_digit b i, zero-add (b - ch "0")))
dec_sign {g} p q (Dec.part (Frac1.given d) e) h = took (point_digits q g d e h (suc p)) refl

-- What the check of a number that means w, at its first place q, comes to, has Q: where the checks are on, and where they are off.
pub record Judged (k : Bool) (Q : Res → Type 0) (q : ℕ) (w : M.Number) : Type 0 where
  pub words : Q (stops (Meaning.number w))
  pub decs : {g : Bool} {m up dn : ℕ} → Finite k g m up dn w → Q (settle q g m up dn)
  pub hexs : {g : Bool} {v : ℕ} → Checked k (v < coefficient_limit) → Finite k g v 0 0 w → Q (settle_hex q g v)

unsigned_sign : {k g : Bool} {a : List ℕ} {w : M.Number} {Q : Res → Type 0} (p q : ℕ) → Unsigned k g a w → Judged k Q q w → Run Q p (sign q g) a
unsigned_sign p q Unsigned.nan j = took (word_run _ _ j.words (suc p)) refl
unsigned_sign p q Unsigned.inf j = took (word_run _ _ j.words (suc p)) refl
unsigned_sign {g = g} p q (Unsigned.hex X.small y l h) j = took (took (mark_digits q g y (j.hexs l h) (suc (suc p))) refl) refl
unsigned_sign {g = g} p q (Unsigned.hex X.capital y l h) j = took (took (mark_digits q g y (j.hexs l h) (suc (suc p))) refl) refl
unsigned_sign p q (Unsigned.dec d h) j = dec_sign p q d (j.decs h)

-- with no sign, digits are both
both_whole : (q : ℕ) (k : Len) (v : ℕ) → Whole q false (both q k false v) v
both_whole q k v = record { at_point = λ p. refl; at_e = e; at_end = λ e p. rw (ending e).no_num }
  where
    e : {b : ℕ} → E b → (p : ℕ) → scan p (both q k false v) b ≡ takes (exp q false v 0)
    e E.small p = refl
    e E.capital p = refl

first_nought : (q : ℕ) → Whole q false (both q d1 true 0) 0
first_nought q = record { at_point = λ p. refl; at_e = e; at_end = λ e p. rw (ending e).no_num }
  where
    e : {b : ℕ} → E b → (p : ℕ) → scan p (both q d1 true 0) b ≡ takes (exp q false 0 0)
    e E.small p = refl
    e E.capital p = refl

module _ (q : ℕ) {v : ℕ} {r : List ℕ} {Q : Res → Type 0} (k : (s : St) → Whole q false s v → (p : ℕ) → Run Q p s r) where
  at_4 : {n m : ℕ} {a : List ℕ} → Decimal n m a v → (p : ℕ) → Run Q p (both q d4 false m) (a ++ r)
  at_4 Digits.over p = k _ (both_whole q d4 v) p
  at_4 (Digits.next {b = b} (Digit.digit i) d) p = took (int_digits q false d k (suc p)) (rw (num_digit b i))

  at_3 : {n m : ℕ} {a : List ℕ} → Decimal n m a v → (p : ℕ) → Run Q p (both q d3 false m) (a ++ r)
  at_3 Digits.over p = k _ (both_whole q d3 v) p
  at_3 (Digits.next {b = b} (Digit.digit i) d) p = took (at_4 d (suc p)) (rw (num_digit b i))

  at_2 : {n m : ℕ} {a : List ℕ} → Decimal n m a v → (p : ℕ) → Run Q p (both q d2 false m) (a ++ r)
  at_2 Digits.over p = k _ (both_whole q d2 v) p
  at_2 (Digits.next {b = b} (Digit.digit i) d) p = took (at_3 d (suc p)) (rw (num_digit b i))

  at_1 : {n m : ℕ} {a : List ℕ} → Decimal n m a v → (p : ℕ) → Run Q p (both q d1 false m) (a ++ r)
  at_1 Digits.over p = k _ (both_whole q d1 v) p
  at_1 (Digits.next {b = b} (Digit.digit i) d) p = took (at_2 d (suc p)) (rw (num_digit b i))

dec_bare : {a : List ℕ} {v up dn : ℕ} {Q : Res → Type 0} (p : ℕ) → Dec a v up dn → Q (settle p false v up dn) → Run Q p begin a
dec_bare p (Dec.whole Int.zero_digit f e) h = took (whole_tail p false (first_nought p) f e h (suc p)) refl
dec_bare p (Dec.whole (Int.positive {b = b} i d) f e) h = took (at_1 p (λ s k. whole_tail p false k f e h) d (suc p))
    (rw (fst_digit b i, zero-add (b - ch "0")))
dec_bare p (Dec.part (Frac1.given d) e) h = took (point_digits p false d e h (suc p)) refl

unsigned_bare : {k : Bool} {a : List ℕ} {w : M.Number} {Q : Res → Type 0} (p : ℕ) → Unsigned k false a w → Judged k Q p w → Run Q p begin a
unsigned_bare p Unsigned.nan j = took (word_run _ _ j.words (suc p)) refl
unsigned_bare p Unsigned.inf j = took (word_run _ _ j.words (suc p)) refl
unsigned_bare p (Unsigned.hex X.small y l h) j = took (took (mark_digits p false y (j.hexs l h) (suc (suc p))) refl) refl
unsigned_bare p (Unsigned.hex X.capital y l h) j = took (took (mark_digits p false y (j.hexs l h) (suc (suc p))) refl) refl
unsigned_bare p (Unsigned.dec d h) j = dec_bare p d (j.decs h)

-- a number, with its checks or without
pub number_goes_to : {k : Bool} {a : List ℕ} {w : M.Number} {Q : Res → Type 0} (p : ℕ) → Number k a w → Judged k Q p w → Run Q p begin a
number_goes_to p (Number.number Sign.unsigned u) j = unsigned_bare p u j
number_goes_to p (Number.number Sign.plus u) j = took (unsigned_sign (suc p) p u j) refl
number_goes_to p (Number.number Sign.minus u) j = took (unsigned_sign (suc p) p u j) refl

within : (q : ℕ) (w : M.Number) → Judged true (λ o. o ≡ stops (Meaning.number w)) q w
within q w = record { words = refl; decs = λ h. settle_to h q; hexs = λ {g = g} {v = v} l h. rw (lt-ltb v coefficient_limit l) (settle_to h q) }

pub number_goes : {a : List ℕ} {w : M.Number} → Number true a w → (p : ℕ) → Goes scan EndsItem p begin a (Meaning.number w)
number_goes {w = w} x p = Runs.goes_value scan (number_goes_to p x (within p w))
