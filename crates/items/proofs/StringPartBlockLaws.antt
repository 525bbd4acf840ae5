-- Blocks of plain bytes. Assumes nothing.
use mathlib.Core.Path.{◌≡◌, sym, ap, ◌∙◌}
use mathlib.Core.List.{List, ◌++◌, append_assoc}
use Prim.Native.Nat.{ℕ, zero, suc, ◌+◌, ◌-◌, ◌≤◌, ◌<◌}
use native.Mathlib.Omega.{arith}
use lib.ListN.{length, get_or, take, drop}
use lib.Seq.{take-add, drop-drop}
use Rattle.meaning.specs.Letters.{ch}
use Rattle.machine.specs.Scan.{over}
use Rattle.machine.specs.Strings.{mk, whole, body, scan}
use Rattle.items.specs.Between.StringPart.{gap, Plains, Passed}
use Rattle.items.specs.Between.Places.{ran_from}
use Rattle.items.proofs.StringPartQuotedLaws.{Passing, pass_more}

-- what the least of the bytes, and the least of their gaps, say of one of them
pub record Bound (q b least slash quote : ℕ) : Type 0 where
  pub byte : b < over
  pub low : least ≤ b
  pub far : slash ≤ gap b (ch "\\")
  pub other : quote ≤ gap b q

pub record Least (s : List ℕ) (q at n least slash quote : ℕ) : Type 0 where
  pub each : (k : ℕ) → k < n → Bound q (get_or s (at + k) 0) least slash quote

-- plain bytes, and n more
pub pass_plains : (s : List ℕ) (q from at n : ℕ) → Passing s q from at → Plains s q at n → at + n ≤ length s → Passing s q from (at + n)
pass_plains s q from at zero t b h = let e : at + 0 ≡ at = omega arith in rw e t
pass_plains s q from at (suc n) t b h =
    let u = b.each n (omega arith) in
    let e : at + suc n ≡ at + n + 1 = omega arith in
    rw e (pass_more s q from (at + n) (pass_plains s q from at n t (record { each = λ k l. b.each k (omega arith) }) (omega arith)) (omega arith) u.slash
    u.quote u.low u.byte)

-- plain bytes, and then those up to one that is not
pub pass_then : (s : List ℕ) (q i j k : ℕ) → Passing s q i j → Passed s q j k → Passed s q i k
pass_then s q i j k t p =
    let n : k - i ≡ (j - i) + (k - j) = omega (arith, t.behind, p.behind) in
    let d : i + (j - i) ≡ j = omega (arith, t.behind) in
    let e : take (k - i) (drop i s) ≡ take (j - i) (drop i s) ++ take (k - j) (drop j s) =
    ap (λ (m : ℕ). take m (drop i s)) n ∙ take-add (j - i) (k - j) (drop i s)
    ∙ ap (λ (x : List ℕ). take (j - i) (drop i s) ++ take (k - j) x) (drop-drop (j - i) i s ∙ ap (λ (m : ℕ). drop m s) d) in
    record {
      goes = λ base bad acc. t.goes base bad acc ∙ p.goes base bad (acc ++ take (j - i) (drop i s))
          ∙ ap (λ (x : List ℕ). ran_from scan base s (body (mk q bad whole x)) k)
          (append_assoc acc (take (j - i) (drop i s)) (take (k - j) (drop j s)) ∙ ap (λ (x : List ℕ). acc ++ x) (sym e));
      behind = omega (arith, t.behind, p.behind);
      within = p.within;
      stopped = p.stopped;
    }
