-- Plain digits: their value as it is, and what they lead to. Assumes nothing.
use Prim.Native.Nat.{ℕ, zero, suc, ◌+◌, ◌*◌, ◌-◌, ◌≤◌, ◌<◌, ◌^◌}
use mathlib.Core.Path.{◌≡◌, refl, sym, ◌∙◌, subst}
use mathlib.Core.Bool.{Bool, true, false}
use mathlib.Core.List.{List}
use native.Mathlib.Omega.{arith}
use native.Mathlib.Nat.{zero-mul, zero-add, pow-suc, pow-le-pow_right, mul-le-mul_right}
use lib.Dec.{leb}
use lib.ListN.{length, get_or}
use borrow.Author.Tests.{leb-true, leb-false}
use Rattle.meaning.specs.Letters.{ch}
use Rattle.machine.specs.Numeric.{dig, int, frac, settle}
use Rattle.machine.proofs.Numeric.Rows.{num_class}
use Rattle.items.specs.Between.Places.{byte_at}
use Rattle.items.specs.Between.NumberOrTime.{Scanned, Reads, Held, Holds, Span, Ended, PlainSays, Settles}
use Rattle.items.specs.declared.number.Acc.{Acc}
use Rattle.items.specs.declared.Taken.{Taken}
use Rattle.items.proofs.NumberOrTimeLaws.{edge_none, took, halts, same}
use Rattle.items.proofs.NumberDigitLaws.{span_next}
use Rattle.items.proofs.NumberDecimalLaws.{span_low, span_frac, frac_other, int_other}

-- ---- values

-- a number with as many digits has no more zeros at its end
pub zeros_few : (v c z k : ℕ) → 0 < c → v ≡ c * 10 ^ z → v < 10 ^ k → z ≤ k
zeros_few v c z k h e l = go (leb z k) refl
  where
    go : (x : Bool) → leb z k ≡ x → z ≤ k
    go true f = leb-true z k f
    go false f = let g = leb-false z k f in absurd (omega (
      arith,
      pow-le-pow_right {n = 10} (omega arith) {i = k} {j = z} (omega arith),
      mul-le-mul_right (10 ^ z) h,
    ))

-- n digits, and those of a span after them
pub span_small : {s : List ℕ} {i m j w : ℕ} (n : ℕ) → Span s i m j w → m < 10 ^ n → w < 10 ^ (n + (j - i))
span_small {i = i} n Span.here h = let e : n + (i - i) ≡ n = omega arith in rw e h
span_small {i = i} n (Span.next {j = j} {w = w} x k d) h =
    let o : i ≤ j = span_low x in
    let e : n + (suc j - i) ≡ suc (n + (j - i)) = omega arith in
    let l = span_small n x h in
    let p : 10 ^ suc (n + (j - i)) ≡ 10 ^ (n + (j - i)) * 10 = pow-suc 10 (n + (j - i)) in
    rw e (omega (arith, l, p, d.low, d.high))

-- ---- where a number ends

-- without the point it ends as one with no fraction digits
module _ (s : List ℕ) (q : ℕ) (g : Bool) (a : Acc) (v : ℕ) (o : Holds v a) (r : Scanned) where
  pub frac_ends : (at f : ℕ) → Ended s at → Settles q g a 0 f at r → Reads s at (frac q g v f) r
  frac_ends at f e t = halts (settle q g v 0 f) (frac_other q g v f (num_class (byte_at s at)) (edge_none e.edge) e.small_e e.large_e) (t.closes v o)

  pub int_ends : (at : ℕ) → Ended s at → Settles q g a 0 0 at r → Reads s at (int q g v) r
  int_ends at e t = same (frac q g v 0) (int_other q g v (num_class (byte_at s at)) (edge_none e.edge) e.point) (frac_ends at 0 e t)

-- a point, and the digits of a fraction
pub point_ends : (s : List ℕ) (q : ℕ) (g : Bool) (a : Acc) (v at : ℕ) (w : Taken ℕ) (r : Scanned) → at < length s → get_or s at 0 ≡ ch "."
    → PlainSays s (at + 1) v w → Holds w.value a → Ended s w.end → Settles q g a 0 (w.end - (at + 1)) w.end r → Reads s at (int q g v) r
point_ends s q g a v at w r h e p o d t =
    took (frac q g v 0) h (rw e)
    (span_frac q g 0 p.span r (subst (λ (x : ℕ). Reads s w.end (frac q g w.value x) r) (sym (zero-add (w.end - (at + 1))))
    (frac_ends s q g a w.value o r w.end (w.end - (at + 1)) d t)))

-- ---- what the loop keeps

pub span_more : (s : List ℕ) (from had i v b x : ℕ) → b ≡ get_or s i 0 → Span s from had i v → i < length s → ch "0" ≤ b → b ≤ ch "9" → x ≡ dig v b
    → Span s from had (i + 1) x
span_more s from had i v b x e h k l u d = subst (λ (y : ℕ). Span s from had (i + 1) y) (sym d) (span_next s from had i v b e h k l u)

pub zeros_of : (v : ℕ) (a : Acc) (k : ℕ) → 0 < v → Holds v a → v < 10 ^ k → a.z ≤ k
zeros_of v a k h o l = go a.over o
  where
    more : (c : ℕ) → v ≡ c * 10 ^ a.z → 0 < c
    more zero e = let f : v ≡ 0 = e ∙ zero-mul (10 ^ a.z) in absurd (omega arith)
    more (suc n) e = omega arith

    go : (x : Bool) → Held v a.c x a.z → a.z ≤ k
    go false t = zeros_few v a.c a.z k (more a.c t.0) t.0 l
    go true t = zeros_few v t.0 a.z k (omega (arith, t.2)) t.1 l
