-- The canonical digits of a number have its value. Assumes nothing.
use Prim.Native.Nat.{ℕ, zero, suc, ◌+◌, ◌*◌, ◌-◌, ◌/◌, ◌%◌, ◌≤◌, ◌<◌, ◌^◌}
use mathlib.Core.Path.{◌≡◌, refl, sym, subst}
use mathlib.Core.Bool.{Bool, true, false, cond}
use mathlib.Core.List.{List, [], ◌∷◌, ◌++◌}
use native.Mathlib.Nat.{div-add-mod', div-eq_of_lt, div-lt_self, div-one}
use native.Mathlib.Omega.{arith}
use lib.Dec.{ltb}
use borrow.Author.Tests.{ltb-true, ltb-false}
use Rattle.rules.specs.Rfc3629.{In}
use Rattle.meaning.specs.Letters.{ch}
use Rattle.meaning.specs.Canonical.{digit, decimal_in, decimal, fixed, hex_digit, hex_pair}
use Rattle.meaning.proofs.Digits.{cut_more}
use Rattle.grammar.specs.Characters.{Digit, Hexdig, Digits, Decimal, Hexadecimal}
use Rattle.grammar.specs.Numbers.{Int}

-- one more digit behind
pub behind : {D : ℕ → ℕ → Type 0} {base n v w b x : ℕ} {a : List ℕ} → Digits D base n v a w → D b x → Digits D base (suc n) v (a ++ (b ∷ [])) (base * w + x)
behind Digits.over d = Digits.next d Digits.over
behind (Digits.next c r) d = Digits.next c (behind r d)

pub digit_is : (x : ℕ) → x < 10 → Digit (digit x) x
digit_is x h = subst (Digit (digit x)) (omega arith) (Digit.digit {b = digit x} (omega arith))

pub hex_digit_is : (x : ℕ) → x < 16 → Hexdig (hex_digit x) x
hex_digit_is x h = go (ltb x 10) refl
  where
    go : (t : Bool) → ltb x 10 ≡ t → Hexdig (cond t (ch "0" + x) (ch "a" + (x - 10))) x
    go true e = let l = ltb-true x 10 e in subst (Hexdig (ch "0" + x)) (omega arith) (Hexdig.decimal {b = ch "0" + x} (omega arith))
    go false e = let l = ltb-false x 10 e in subst (Hexdig (ch "a" + (x - 10))) (omega arith) (Hexdig.lower {b = ch "a" + (x - 10)} (omega arith))

-- two hex digits behind others
pub hex_pair_is : (b : ℕ) → b < 256 → Hexadecimal 2 (hex_pair b) b
hex_pair_is b h = subst (λ (w : ℕ). Hexadecimal 2 (hex_pair b) w) (omega arith) (Digits.next (hex_digit_is (b / 16) (omega arith))
    (Digits.next (hex_digit_is (b % 16) (omega arith)) Digits.over))

-- the quotient and the digit that is left
ten_times : (n : ℕ) → 10 * (n / 10) + n % 10 ≡ n
ten_times n = omega (arith, div-add-mod' n 10)

-- the last w digits, behind what stands before them
pub fixed_behind : (w n : ℕ) → Decimal w (n / 10 ^ w) (fixed w n) n
unfolding fixed
fixed_behind zero n = subst (λ (v : ℕ). Decimal zero v [] n) (sym (div-one n)) Digits.over
fixed_behind (suc w) n =
    let a = fixed w (n / 10) ++ (digit (n % 10) ∷ []) in
    subst (λ (v : ℕ). Decimal (suc w) v a n) (sym (cut_more w n))
    (subst (Decimal (suc w) (n / 10 / 10 ^ w) a) (ten_times n) (behind (fixed_behind w (n / 10)) (digit_is (n % 10) (omega arith))))

-- w digits
pub fixed_is : (w n : ℕ) → n < 10 ^ w → Decimal w 0 (fixed w n) n
fixed_is w n h = subst (λ (v : ℕ). Decimal w v (fixed w n) n) (div-eq_of_lt h) (fixed_behind w n)

-- digits with no zero in front
pub data Lead : List ℕ → ℕ → Type 0 where
  lead : {b j w : ℕ} {a : List ℕ} → In (ch "1") (ch "9") b → Decimal j (b - ch "0") a w → Lead (b ∷ a) w

lead_behind : {a : List ℕ} {w b x : ℕ} → Lead a w → Digit b x → Lead (a ++ (b ∷ [])) (10 * w + x)
lead_behind (Lead.lead i d) x = Lead.lead i (behind d x)

lead_one : (n : ℕ) → 0 < n → n < 10 → Lead (digit n ∷ []) n
lead_one n h l = subst (Lead (digit n ∷ [])) (omega arith) (Lead.lead {b = digit n} (omega arith) Digits.over)

lead_in : (count n : ℕ) → n ≤ count → 0 < n → Lead (decimal_in count n) n
unfolding decimal_in
lead_in zero n h l = absurd (omega arith)
lead_in (suc count) n h l = go (λ p q. lead_in count (n / 10) p q) (ltb n 10) refl
  where
    go : (n / 10 ≤ count → 0 < n / 10 → Lead (decimal_in count (n / 10)) (n / 10)) → (t : Bool) → ltb n 10 ≡ t
        → Lead (cond t (digit n ∷ []) (decimal_in count (n / 10) ++ (digit (n % 10) ∷ []))) n
    go f true e = lead_one n l (ltb-true n 10 e)
    go f false e =
        let g = ltb-false n 10 e in
        subst (Lead (decimal_in count (n / 10) ++ (digit (n % 10) ∷ []))) (ten_times n)
        (lead_behind (f (omega (arith, div-lt_self {n = n} {k = 10} l (omega arith))) (omega arith)) (digit_is (n % 10) (omega arith)))

pub decimal_lead : (n : ℕ) → 0 < n → Lead (decimal n) n
unfolding decimal
decimal_lead n h = lead_in n n (omega arith) h

-- 1*DIGIT
pub record Some (a : List ℕ) (w : ℕ) : Type 0 where
  pub further : ℕ
  pub digits : Decimal (suc further) 0 a w

some : {a : List ℕ} {w : ℕ} → Lead a w → Some a w
some (Lead.lead {b = b} {j = j} {w = w} {a = a} i d) =
    record { further = j; digits = Digits.next {v = 0} (Digit.digit {b = b} (omega arith)) (subst (λ (v : ℕ). Decimal j v a w) (omega arith) d) }

pub decimal_some : (n : ℕ) → 0 < n → Some (decimal n) n
decimal_some n h = some (decimal_lead n h)

int : {a : List ℕ} {w : ℕ} → Lead a w → Int a w
int (Lead.lead i d) = Int.positive i d

pub decimal_int : (n : ℕ) → Int (decimal n) n
unfolding decimal decimal_in
decimal_int zero = Int.zero_digit
decimal_int (suc n) = int (lead_in (suc n) (suc n) (omega arith) (omega arith))
