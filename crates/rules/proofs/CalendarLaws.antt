-- What holds in each month by itself holds for any number of a month, February apart. Assumes nothing.
use mathlib.Core.Path.{◌≡◌, refl}
use Prim.Native.Nat.{ℕ, zero, suc, ◌≤◌}
use native.Mathlib.Omega.{arith}

pub record InEach (m : ℕ) (P : Type 0) : Type 0 where
  pub january : m ≡ 1 → P
  pub march : m ≡ 3 → P
  pub april : m ≡ 4 → P
  pub may : m ≡ 5 → P
  pub june : m ≡ 6 → P
  pub july : m ≡ 7 → P
  pub august : m ≡ 8 → P
  pub september : m ≡ 9 → P
  pub october : m ≡ 10 → P
  pub november : m ≡ 11 → P
  pub december : m ≡ 12 → P

pub but_february : (m : ℕ) {P : Type 0} → 1 ≤ m → m ≤ 12 → (m ≡ 2 → ⊥) → InEach m P → P
but_february zero l h f p = absurd (omega arith)
but_february (suc zero) l h f p = p.january refl
but_february (suc (suc zero)) l h f p = absurd (f refl)
but_february (suc (suc (suc zero))) l h f p = p.march refl
but_february (suc (suc (suc (suc zero)))) l h f p = p.april refl
but_february (suc (suc (suc (suc (suc zero))))) l h f p = p.may refl
but_february (suc (suc (suc (suc (suc (suc zero)))))) l h f p = p.june refl
but_february (suc (suc (suc (suc (suc (suc (suc zero))))))) l h f p = p.july refl
but_february (suc (suc (suc (suc (suc (suc (suc (suc zero)))))))) l h f p = p.august refl
but_february (suc (suc (suc (suc (suc (suc (suc (suc (suc zero))))))))) l h f p = p.september refl
but_february (suc (suc (suc (suc (suc (suc (suc (suc (suc (suc zero)))))))))) l h f p = p.october refl
but_february (suc (suc (suc (suc (suc (suc (suc (suc (suc (suc (suc zero))))))))))) l h f p = p.november refl
but_february (suc (suc (suc (suc (suc (suc (suc (suc (suc (suc (suc (suc zero)))))))))))) l h f p = p.december refl
but_february (suc (suc (suc (suc (suc (suc (suc (suc (suc (suc (suc (suc (suc m))))))))))))) l h f p = absurd (omega arith)
