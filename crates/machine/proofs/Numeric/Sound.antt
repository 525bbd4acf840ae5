-- What may still come from each state of a number, by the rules, and that a byte before it keeps to them. Assumes nothing.
use Prim.Native.Nat.{ℕ, suc, ◌+◌, ◌-◌, ◌<◌}
use mathlib.Core.Path.{◌≡◌, refl, subst}
use mathlib.Core.Bool.{Bool}
use mathlib.Core.Logic.{◌⊎◌, inl, inr}
use mathlib.Core.List.{List, [], ◌∷◌, ◌++◌}
use native.Mathlib.Nat.{add-zero, zero-add}
use native.Mathlib.Omega.{arith}
use Rattle.rules.specs.Rfc3629.{In}
use Rattle.meaning.specs.declared.Number as M
use Rattle.meaning.specs.Limits.{coefficient_limit}
use Rattle.meaning.specs.Letters.{ch}
use Rattle.meaning.specs.Meaning.{Meaning}
use Rattle.grammar.specs.Checks.{Checked}
use Rattle.grammar.specs.Characters.{Digit, Hexdig, Digits, Decimal}
use Rattle.grammar.specs.Numbers.{Finite, Sign, Int, Frac0, Frac1, E, Exp, Dec, X, Unsigned, raised, lowered}
use Rattle.machine.specs.Numeric.{dig}
use Rattle.machine.proofs.Numeric.Rows.{DecimalDigit}

module _ (ck : Bool) where
  -- `Finite` and `Unsigned`, of meanings
  pub data Fin (g : Bool) (m up dn : ℕ) : Meaning → Type 0 where
    number : {n : M.Number} → Finite ck g m up dn n → Fin g m up dn (Meaning.number n)

  pub data Bare (g : Bool) (a : List ℕ) : Meaning → Type 0 where
    number : {n : M.Number} → Unsigned ck g a n → Bare g a (Meaning.number n)

  -- ---- what may still come: a is the bytes, w the meaning at their end

  abbrev pub Scaled : Bool → ℕ → ℕ → Bool → ℕ → Meaning → Type 0
  Scaled g m f s e w = Fin g m (raised s e) (f + lowered s e) w

  abbrev pub ExpDigitsRest : Bool → ℕ → ℕ → Bool → ℕ → List ℕ → Meaning → Type 0
  ExpDigitsRest g m f s e a w = (v : ℕ) × (n : ℕ) × Decimal n e a v × Scaled g m f s v w

  abbrev pub SignRest : Bool → ℕ → ℕ → Bool → List ℕ → Meaning → Type 0
  SignRest g m f s a w = (v : ℕ) × (n : ℕ) × Decimal (suc n) 0 a v × Scaled g m f s v w

  abbrev pub PowerRest : Bool → ℕ → ℕ → List ℕ → Meaning → Type 0
  PowerRest g m f a w = (c : List ℕ) × (d : List ℕ) × (s : Bool) × (a ≡ c ++ d) × Sign c s × SignRest g m f s d w

  abbrev pub ExpRest : Bool → ℕ → ℕ → List ℕ → Meaning → Type 0
  ExpRest g m f a w = (up : ℕ) × (dn : ℕ) × Exp a up dn × Fin g m up (f + dn) w

  abbrev pub FracRest : Bool → ℕ → ℕ → List ℕ → Meaning → Type 0
  FracRest g m f a w = (d : List ℕ) × (r : List ℕ) × (v : ℕ) × (n : ℕ) × (k : ℕ) × (a ≡ d ++ r) × Decimal n m d v × (f + n ≡ k) × ExpRest g v k r w

  abbrev pub PointRest : Bool → List ℕ → Meaning → Type 0
  PointRest g a w = (d : List ℕ) × (r : List ℕ) × (v : ℕ) × (n : ℕ) × (a ≡ d ++ r) × Decimal (suc n) 0 d v × ExpRest g v (suc n) r w

  abbrev pub WholeRest : Bool → ℕ → List ℕ → Meaning → Type 0
  WholeRest g m a w = (b : List ℕ) × (c : List ℕ) × (v : ℕ) × (n : ℕ) × (a ≡ b ++ c) × Frac0 m b v n × ExpRest g v n c w

  abbrev pub IntRest : Bool → ℕ → List ℕ → Meaning → Type 0
  IntRest g m a w = (d : List ℕ) × (r : List ℕ) × (v : ℕ) × (n : ℕ) × (a ≡ d ++ r) × Decimal n m d v × WholeRest g v r w

  abbrev pub HexRest : Bool → ℕ → List ℕ → Meaning → Type 0
  HexRest g v a w = (u : ℕ) × (n : ℕ) × Digits Hexdig 16 n v a u × Checked ck (u < coefficient_limit) × Fin g u 0 0 w

  abbrev pub MarkRest : Bool → List ℕ → Meaning → Type 0
  MarkRest g a w = (u : ℕ) × (n : ℕ) × Digits Hexdig 16 (suc n) 0 a u × Checked ck (u < coefficient_limit) × Fin g u 0 0 w

  abbrev pub NoughtRest : Bool → List ℕ → Meaning → Type 0
  NoughtRest g a w = WholeRest g 0 a w ⊎ ((b : ℕ) × (r : List ℕ) × (a ≡ b ∷ r) × X b × MarkRest g r w)

  -- ---- a byte before it

  module _ (g : Bool) where
    pub exp_e : (m f b : ℕ) (a : List ℕ) (w : Meaning) → E b → PowerRest g m f a w → ExpRest g m f (b ∷ a) w
    exp_e m f b a w e h = (raised h.2 h.5.0, lowered h.2 h.5.0, rw h.3 (Exp.given e h.4 h.5.2), h.5.3)

    pub exp_none : (m f : ℕ) (w : Meaning) → Fin g m 0 f w → ExpRest g m f [] w
    exp_none m f w h = (0, 0, Exp.absent, rw add-zero h)

    pub frac_e : (m f b : ℕ) (a : List ℕ) (w : Meaning) → E b → PowerRest g m f a w → FracRest g m f (b ∷ a) w
    frac_e m f b a w e h = ([], b ∷ a, m, 0, f, refl, Digits.over, add-zero f, exp_e m f b a w e h)

    pub frac_none : (m f : ℕ) (w : Meaning) → Fin g m 0 f w → FracRest g m f [] w
    frac_none m f w h = ([], [], m, 0, f, refl, Digits.over, add-zero f, exp_none m f w h)

    pub frac_digit : (m f b : ℕ) (a : List ℕ) (w : Meaning) → DecimalDigit b → FracRest g (dig m b) (suc f) a w → FracRest g m f (b ∷ a) w
    frac_digit m f b a w i h = (b ∷ h.0, h.1, h.2, suc h.3, h.4, rw h.5, Digits.next (Digit.digit i) h.6, omega (arith, h.7), h.8)

    pub point_digit : (b : ℕ) (a : List ℕ) (w : Meaning) → DecimalDigit b → FracRest g (dig 0 b) 1 a w → PointRest g (b ∷ a) w
    point_digit b a w i h = let e : h.4 ≡ suc h.3 = omega (arith, h.7) in (
      b ∷ h.0,
      h.1,
      h.2,
      h.3,
      rw h.5,
      Digits.next (Digit.digit i) h.6,
      subst (λ (x : ℕ). ExpRest g h.2 x h.1 w) e h.8,
    )

    pub whole_e : (m b : ℕ) (a : List ℕ) (w : Meaning) → E b → PowerRest g m 0 a w → WholeRest g m (b ∷ a) w
    whole_e m b a w e h = ([], b ∷ a, m, 0, refl, Frac0.absent, exp_e m 0 b a w e h)

    pub whole_none : (m : ℕ) (w : Meaning) → Fin g m 0 0 w → WholeRest g m [] w
    whole_none m w h = ([], [], m, 0, refl, Frac0.absent, exp_none m 0 w h)

    pub whole_point : (m : ℕ) (a : List ℕ) (w : Meaning) → FracRest g m 0 a w → WholeRest g m (ch "." ∷ a) w
    whole_point m a w h = let e : h.4 ≡ h.3 = omega (arith, h.7) in (
      ch "." ∷ h.0,
      h.1,
      h.2,
      h.3,
      rw h.5,
      Frac0.given h.6,
      subst (λ (x : ℕ). ExpRest g h.2 x h.1 w) e h.8,
    )

    pub int_of : (m : ℕ) (a : List ℕ) (w : Meaning) → WholeRest g m a w → IntRest g m a w
    int_of m a w h = ([], a, m, 0, refl, Digits.over, h)

    pub int_digit : (m b : ℕ) (a : List ℕ) (w : Meaning) → DecimalDigit b → IntRest g (dig m b) a w → IntRest g m (b ∷ a) w
    int_digit m b a w i h = (b ∷ h.0, h.1, h.2, suc h.3, rw h.4, Digits.next (Digit.digit i) h.5, h.6)

    -- ---- a number after its sign

    dec_of : {a : List ℕ} {v up dn : ℕ} {w : Meaning} → Dec a v up dn → Fin g v up dn w → Bare g a w
    dec_of d (Fin.number f) = Bare.number (Unsigned.dec d f)

    hex_of_lem : {a : List ℕ} {b n v : ℕ} {w : Meaning} → X b → Digits Hexdig 16 (suc n) 0 a v → Checked ck (v < coefficient_limit) → Fin g v 0 0 w
        → Bare g (ch "0" ∷ b ∷ a) w
    hex_of_lem x d l (Fin.number f) = Bare.number (Unsigned.hex x d l f)

    whole_dec : (b : List ℕ) (v : ℕ) (a : List ℕ) (w : Meaning) → Int b v → WholeRest g v a w → Bare g (b ++ a) w
    whole_dec b v a w i h = rw h.4 (dec_of (Dec.whole i h.5 h.6.2) h.6.3)

    pub int_dec : (b : ℕ) (a : List ℕ) (w : Meaning) → In (ch "1") (ch "9") b → IntRest g (dig 0 b) a w → Bare g (b ∷ a) w
    int_dec b a w i h = rw h.4 (whole_dec (b ∷ h.0) h.2 h.1 w (Int.positive i
        (subst (λ (x : ℕ). Decimal h.3 x h.0 h.2) (zero-add (b - ch "0")) h.5)) h.6)

    pub point_dec : (a : List ℕ) (w : Meaning) → PointRest g a w → Bare g (ch "." ∷ a) w
    point_dec a w h = rw h.4 (dec_of (Dec.part (Frac1.given h.5) h.6.2) h.6.3)

    pub nought_dec : (a : List ℕ) (w : Meaning) → NoughtRest g a w → Bare g (ch "0" ∷ a) w
    nought_dec a w (inl h) = whole_dec (ch "0" ∷ []) 0 a w Int.zero_digit h
    nought_dec a w (inr h) = rw h.2 (hex_of_lem h.3 h.4.2 h.4.3 h.4.4)
