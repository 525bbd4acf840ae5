-- The parts of a decimal number: digits, a fraction, an exponent, and where it ends. Assumes nothing.
use Rattle.std.specs.Prelude.{Ok, Err}
use Prim.Native.Nat.{ℕ, suc, ◌+◌, ◌-◌, ◌≤◌, ◌<◌, ◌^◌}
use mathlib.Core.Path.{◌≡◌, refl, sym, ◌∙◌, ap, subst}
use mathlib.Core.Bool.{Bool, true, false}
use mathlib.Core.Logic.{◌⊎◌, inl, inr}
use mathlib.Core.List.{List}
use native.Mathlib.Omega.{arith}
use native.Mathlib.Nat.{add-zero, zero-add, zero-mul}
use native.Mathlib.Numerals.{add-one}
use lib.ListN.{length, get_or}
use lib.IntN.{pos}
use Rattle.meaning.specs.Letters.{ch}
use Rattle.meaning.specs.Meaning.{Meaning}
use Rattle.meaning.specs.Limits.{text_limit, coefficient_limit}
use Rattle.meaning.specs.declared.Number.TheVariants.{Finite}
use Rattle.meaning.specs.declared.Refusal.TheVariants.{NotGrammar}
use Rattle.grammar.specs.Numbers as G
use Rattle.machine.specs.Scan.{takes, stops}
use Rattle.machine.specs.Numeric as S
use Rattle.machine.specs.Numeric.{St, scan, dig, int, frac, exp, exp_sign, exp_digits, point, nought, settle, scaled}
use Rattle.machine.proofs.Runs.{NoDigit}
use Rattle.machine.proofs.Numeric.Rows.{found, num_digit, num_class, NumIs, dg_digit, dg_none, exp_digit}
use Rattle.machine.proofs.Numeric.Value.{settle_to}
use Rattle.items.specs.Between.Places.{byte_at}
use Rattle.items.specs.Between.NumberOrTime.{Scanned, taken, Means, Tells, Reads, Closes, IsDigit, Edge, Held, Holds, Span, Digited, Powered, From, Settles}
use Rattle.items.specs.Between.NumberOrTime.{Onto}
use Rattle.items.specs.declared.number.Acc.{Acc}
use Rattle.items.specs.declared.Taken.{Taken}
use Rattle.items.specs.declared.Item.TheVariants as Item
use Rattle.items.proofs.PlacesLaws.{byte_in, byte_out}
use Rattle.items.proofs.NumberOrTimeLaws.{edge_none, no_digit_lem, digit?, took, halts, breaks_at, same, closes_by}
use Rattle.items.proofs.NumberSettleLaws.{capped_up, capped_dn}

-- ---- spans of digits

pub span_low : {s : List ℕ} {i m j w : ℕ} → Span s i m j w → i ≤ j
span_low Span.here = omega arith
span_low (Span.next h k d) = omega (arith, span_low h)

-- a state for each value, and digits that lead from one to the next
module _ {s : List ℕ} (st : ℕ → ℕ → St) (step : (p f w b : ℕ) → IsDigit b → scan p (st f w) b ≡ takes (st (suc f) (dig w b))) where
  -- f digits so far
  pub span_on : (f : ℕ) {i m j w : ℕ} → Span s i m j w → Onto s i (st f m) j (st (f + (j - i)) w)
  span_on f {i} {m} Span.here = λ r k. let e : f + (i - i) ≡ f = omega arith in subst (λ (x : ℕ). Reads s i (st x m) r) e k
  span_on f {i} {m} (Span.next {j = j} {w = w} h l d) = λ r k.
      let o : i ≤ j = span_low h in
      let c : f + (suc j - i) ≡ suc (f + (j - i)) = omega arith in
      span_on f h r (took (st (suc (f + (j - i))) (dig w (get_or s j 0))) l (step j (f + (j - i)) w (get_or s j 0) d)
      (subst (λ (x : ℕ). Reads s x (st (suc (f + (j - i))) (dig w (get_or s j 0))) r) (sym (add-one j))
      (subst (λ (x : ℕ). Reads s (suc j) (st x (dig w (get_or s j 0))) r) c k)))

module _ (q : ℕ) (g : Bool) {s : List ℕ} where
  pub span_int : {i m j w : ℕ} → Span s i m j w → Onto s i (int q g m) j (int q g w)
  span_int d = span_on (λ f m. int q g m) (λ p f w b h. rw (num_digit b h)) 0 d

  pub span_frac : (f : ℕ) {i m j w : ℕ} → Span s i m j w → Onto s i (frac q g m f) j (frac q g w (f + (j - i)))
  span_frac f d = span_on (λ f m. frac q g m f) (λ p f w b h. rw (num_digit b h)) f d

  pub span_exp : (v f : ℕ) (z : Bool) {i m j w : ℕ} → Span s i m j w → Onto s i (exp_digits q g v f z m) j (exp_digits q g v f z w)
  span_exp v f z d = span_on (λ x m. exp_digits q g v f z m) (λ p x w b h. rw (dg_digit b h)) 0 d

-- ---- where a number ends

module _ (q : ℕ) (g : Bool) (m f : ℕ) where
  pub frac_other : {b : ℕ} {c : S.Num} → NumIs b c → NoDigit b → (b ≡ ch "e" → ⊥) → (b ≡ ch "E" → ⊥) → S.on_frac q g m f b c ≡ settle q g m 0 f
  frac_other (NumIs.digit i) n x y = absurd (no_digit_lem n i)
  frac_other NumIs.point n x y = refl
  frac_other (NumIs.e_is G.E.small) n x y = absurd (x refl)
  frac_other (NumIs.e_is G.E.capital) n x y = absurd (y refl)
  frac_other (NumIs.x_is i) n x y = refl
  frac_other NumIs.colon n x y = refl
  frac_other NumIs.minus n x y = refl
  frac_other NumIs.other n x y = refl

  same_exp : (p b : ℕ) → (b ≡ ch "+" → ⊥) → (b ≡ ch "-" → ⊥) → scan p (exp q g m f) b ≡ scan p (exp_sign q g m f false) b
  same_exp p b x y = go (digit? b)
    where
      none : NoDigit b → S.exp_of b ≡ S.other_e
      none (NoDigit.under h) = found S.exp_table S.other_e b S.other_e (inr (
        (λ i. omega arith),
        inr ((λ i. x (omega arith)), inr ((λ i. y (omega arith)), refl)),
      ))
      none (NoDigit.past h) = found S.exp_table S.other_e b S.other_e (inr ((λ i. omega arith), inr ((λ i. omega arith), inr ((λ i. omega arith), refl))))

      go : IsDigit b ⊎ NoDigit b → scan p (exp q g m f) b ≡ scan p (exp_sign q g m f false) b
      go (inl d) = rw (exp_digit b d, dg_digit b d)
      go (inr n) = rw (none n, dg_none n)

  -- an exponent's digits, from after its sign
  sign_digits : (z : Bool) {s : List ℕ} {i j w : ℕ} {r : Scanned} → i < length s → IsDigit (get_or s i 0) → Span s i 0 j w → Edge s j
      → Closes j (scaled q g m f z w) r → Reads s i (exp_sign q g m f z) r
  sign_digits z {s} {i} {j} {w} h d x e k =
      let b : byte_at s i ≡ get_or s i 0 = byte_in s i h in
      same (exp_digits q g m f z 0) (rw (b, dg_digit (get_or s i 0) d)) (span_exp q g m f z x _ (halts (scaled q g m f z w) (rw (dg_none (edge_none e))) k))

module _ (s : List ℕ) (q : ℕ) (g : Bool) (a : Acc) (f : ℕ) (z : Bool) (k : ℕ) where
  pub raised_edge : Edge s k → From s a k (λ m. exp_sign q g m f z) (Err (NotGrammar k))
  raised_edge e = record { reads = λ m i. breaks_at (rw (dg_none (edge_none e))) }

  module _ (w : Taken ℕ) (r : Scanned) (l : a.c < coefficient_limit) (y : a.z ≤ text_limit) (h : k < length s) (i : IsDigit (get_or s k 0)) (p : Powered s k w)
    where
      pub raised_dn : z ≡ true → Settles q g a 0 (f + w.value) w.end r → From s a k (λ m. exp_sign q g m f z) r
      raised_dn n t = record {
        reads = λ m o. let d = p.says in rw n (sign_digits q g m f true h i d.1 p.edge
            (closes_by _ _ (capped_dn q g m a.c a.z l y a.over w.value d.0 f o d.2) (t.closes m o)));
      }

      pub raised_up : z ≡ false → f ≤ text_limit → Settles q g a w.value f w.end r → From s a k (λ m. exp_sign q g m f z) r
      raised_up n u t = record {
        reads = λ m o. let d = p.says in rw n (sign_digits q g m f false h i d.1 p.edge
            (closes_by _ _ (ap (λ (x : ℕ). settle q g m d.0 x) (add-zero f) ∙ capped_up q g m a.c a.z l y a.over w.value d.0 f o d.2 u)
            (t.closes m o)));
      }

module _ (s : List ℕ) (q : ℕ) (g : Bool) (a : Acc) (f i : ℕ) (r : Scanned) where
  -- no exponent
  pub none_over : length s ≤ i → Settles q g a 0 f i r → From s a i (λ m. frac q g m f) r
  none_over h t = record { reads = λ m o. halts (settle q g m 0 f) (rw (byte_out s i h)) (t.closes m o) }

  pub none_other : i < length s → Edge s i → (get_or s i 0 ≡ ch "e" → ⊥) → (get_or s i 0 ≡ ch "E" → ⊥) → Settles q g a 0 f i r
      → From s a i (λ m. frac q g m f) r
  none_other h e x y t = record {
    reads = λ m o. halts (settle q g m 0 f) (frac_other q g m f (num_class (byte_at s i)) (edge_none e) (rw (← byte_in s i h) at x)
        (rw (← byte_in s i h) at y)) (t.closes m o);
  }

  pub after_e : i < length s → (get_or s i 0 ≡ ch "E") ⊎ (get_or s i 0 ≡ ch "e") → From s a (i + 1) (λ m. exp q g m f) r → From s a i (λ m. frac q g m f) r
  after_e h (inl e) t = record { reads = λ m o. took (exp q g m f) h (rw e) (t.reads m o) }
  after_e h (inr e) t = record { reads = λ m o. took (exp q g m f) h (rw e) (t.reads m o) }

  pub e_plus : i < length s → get_or s i 0 ≡ ch "+" → From s a (i + 1) (λ m. exp_sign q g m f false) r → From s a i (λ m. exp q g m f) r
  e_plus h e t = record { reads = λ m o. took (exp_sign q g m f false) h (rw e) (t.reads m o) }

  pub e_minus : i < length s → get_or s i 0 ≡ ch "-" → From s a (i + 1) (λ m. exp_sign q g m f true) r → From s a i (λ m. exp q g m f) r
  e_minus h e t = record { reads = λ m o. took (exp_sign q g m f true) h (rw e) (t.reads m o) }

  pub e_bare : i < length s → (get_or s i 0 ≡ ch "+" → ⊥) → (get_or s i 0 ≡ ch "-" → ⊥) → From s a i (λ m. exp_sign q g m f false) r
      → From s a i (λ m. exp q g m f) r
  e_bare h x y t = record {
    reads = λ m o. same (exp_sign q g m f false) (same_exp q g m f i (byte_at s i) (rw (← byte_in s i h) at x)
        (rw (← byte_in s i h) at y)) (t.reads m o);
  }

pub e_over : (s : List ℕ) (q : ℕ) (g : Bool) (a : Acc) (f i : ℕ) → length s ≤ i → From s a i (λ m. exp q g m f) (Err (NotGrammar i))
e_over s q g a f i h = record { reads = λ m o. breaks_at (rw (byte_out s i h)) }

-- ---- a fraction, and a whole number before it

-- a fraction's digits
pub fraction_on : (s : List ℕ) (q : ℕ) (g : Bool) (a : Acc) (i : ℕ) (w : Taken Acc) (d : Digited s i a w) (r : Scanned)
    → From s w.value w.end (λ m. frac q g m (w.end - i)) r → From s a i (λ m. frac q g m 0) r
fraction_on s q g a i w d r t =
    record {
      reads = λ m o. let k = d.holds m o in span_frac q g 0 k.1 r (subst (λ (x : ℕ). Reads s w.end (frac q g k.0 x) r) (sym (zero-add (w.end - i)))
          (t.reads k.0 k.2));
    }

-- a whole part's digits
pub whole_on : (s : List ℕ) (q : ℕ) (g : Bool) (a : Acc) (i : ℕ) (w : Taken Acc) (d : Digited s i a w) (r : Scanned) → From s w.value w.end (λ m. int q g m) r
    → From s a i (λ m. int q g m) r
whole_on s q g a i w d r t = record { reads = λ m o. let k = d.holds m o in span_int q g k.1 r (t.reads k.0 k.2) }

pub int_other : (q : ℕ) (g : Bool) (m : ℕ) {b : ℕ} {c : S.Num} → NumIs b c → NoDigit b → (b ≡ ch "." → ⊥) → S.on_int q g m b c ≡ S.on_frac q g m 0 b c
int_other q g m (NumIs.digit i) n x = absurd (no_digit_lem n i)
int_other q g m NumIs.point n x = absurd (x refl)
int_other q g m (NumIs.e_is e) n x = refl
int_other q g m (NumIs.x_is i) n x = refl
int_other q g m NumIs.colon n x = refl
int_other q g m NumIs.minus n x = refl
int_other q g m NumIs.other n x = refl

module _ (s : List ℕ) (q : ℕ) (g : Bool) (a : Acc) (i : ℕ) (r : Scanned) where
  pub no_point_end : length s ≤ i → From s a i (λ m. frac q g m 0) r → From s a i (λ m. int q g m) r
  no_point_end h t = record { reads = λ m o. same (frac q g m 0) (rw (byte_out s i h)) (t.reads m o) }

  pub no_point : i < length s → Edge s i → (get_or s i 0 ≡ ch "." → ⊥) → From s a i (λ m. frac q g m 0) r → From s a i (λ m. int q g m) r
  no_point h e x t = record {
    reads = λ m o. same (frac q g m 0) (int_other q g m (num_class (byte_at s i)) (edge_none e) (rw (← byte_in s i h) at x))
        (t.reads m o);
  }

  pub with_point : i < length s → get_or s i 0 ≡ ch "." → From s a (i + 1) (λ m. frac q g m 0) r → From s a i (λ m. int q g m) r
  with_point h e t = record { reads = λ m o. took (frac q g m 0) h (rw e) (t.reads m o) }

-- ---- a point first, and a nought

-- nothing so far
pub holds_none : (a : Acc) → a.c ≡ 0 → a.over ≡ false → Holds 0 a
holds_none a c e = subst (λ (x : Bool). Held 0 a.c x a.z) (sym e) (rw c (sym (zero-mul (10 ^ a.z)), inl refl))

module _ (s : List ℕ) (q : ℕ) (g : Bool) (i : ℕ) where
  pub point_edge : Edge s i → Reads s i (point q g) (Err (NotGrammar i))
  point_edge e = breaks_at (rw (dg_none (edge_none e)))

  module _ (a : Acc) (c : a.c ≡ 0) (v : a.over ≡ false) (r : Scanned) (h : i < length s) where
    pub point_digits : IsDigit (get_or s i 0) → From s a i (λ m. frac q g m 0) r → Reads s i (point q g) r
    point_digits d t = let b = byte_in s i h in same (frac q g 0 0) (rw (b, dg_digit (get_or s i 0) d, num_digit (get_or s i 0) d))
        (t.reads 0 (holds_none a c v))

    pub nought_e : (get_or s i 0 ≡ ch "E") ⊎ (get_or s i 0 ≡ ch "e") → From s a i (λ m. frac q g m 0) r → Reads s i (nought q g) r
    nought_e (inl e) t = let b = byte_in s i h in same (frac q g 0 0) (rw (b, e)) (t.reads 0 (holds_none a c v))
    nought_e (inr e) t = let b = byte_in s i h in same (frac q g 0 0) (rw (b, e)) (t.reads 0 (holds_none a c v))

    pub nought_point : get_or s i 0 ≡ ch "." → From s a (i + 1) (λ m. frac q g m 0) r → Reads s i (nought q g) r
    nought_point e t = took (frac q g 0 0) h (rw e) (t.reads 0 (holds_none a c v))

  pub nought_x : (r : Scanned) → i < length s → (get_or s i 0 ≡ ch "X") ⊎ (get_or s i 0 ≡ ch "x") → Reads s (i + 1) (S.hex_mark q g) r
      → Reads s i (nought q g) r
  nought_x r h (inl e) t = took (S.hex_mark q g) h (rw e) t
  nought_x r h (inr e) t = took (S.hex_mark q g) h (rw e) t

  nought_is : settle q g 0 0 0 ≡ stops (Meaning.number (Finite g 0 (pos 0)))
  nought_is = settle_to (G.Finite.nought refl) q

  nought_done : {b : ℕ} {c : S.Num} → NumIs b c → (b ≡ ch "." → ⊥) → (b ≡ ch "e" → ⊥) → (b ≡ ch "E" → ⊥) → (b ≡ ch "x" → ⊥) → (b ≡ ch "X" → ⊥)
      → S.on_nought q g c ≡ settle q g 0 0 0
  nought_done (NumIs.digit i) p e f x y = refl
  nought_done NumIs.point p e f x y = absurd (p refl)
  nought_done (NumIs.e_is G.E.small) p e f x y = absurd (e refl)
  nought_done (NumIs.e_is G.E.capital) p e f x y = absurd (f refl)
  nought_done (NumIs.x_is G.X.small) p e f x y = absurd (x refl)
  nought_done (NumIs.x_is G.X.capital) p e f x y = absurd (y refl)
  nought_done NumIs.colon p e f x y = refl
  nought_done NumIs.minus p e f x y = refl
  nought_done NumIs.other p e f x y = refl

  ends_nought : scan i (nought q g) (byte_at s i) ≡ settle q g 0 0 0 → (r : Scanned) → r ≡ Ok (taken (Item.Number (Finite g 0 (pos 0))) i)
      → Reads s i (nought q g) r
  ends_nought h r e = rw e (halts _ (h ∙ nought_is) (record { tells = Tells.item Means.number }))

  pub nought_over : length s ≤ i → (r : Scanned) → r ≡ Ok (taken (Item.Number (Finite g 0 (pos 0))) i) → Reads s i (nought q g) r
  nought_over h = ends_nought (rw (byte_out s i h))

  pub nought_ends : i < length s → (get_or s i 0 ≡ ch "." → ⊥) → (get_or s i 0 ≡ ch "e" → ⊥) → (get_or s i 0 ≡ ch "E" → ⊥) → (get_or s i 0 ≡ ch "x" → ⊥)
      → (get_or s i 0 ≡ ch "X" → ⊥) → (r : Scanned) → r ≡ Ok (taken (Item.Number (Finite g 0 (pos 0))) i) → Reads s i (nought q g) r
  nought_ends h p e f x y = let b = byte_in s i h in ends_nought (rw b (nought_done (num_class (get_or s i 0)) p e f x y))
