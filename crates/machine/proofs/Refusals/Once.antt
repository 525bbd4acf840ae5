-- A text is stuck at one place only, and nowhere if the machine accepts it. Assumes nothing.
use Prim.Native.Nat.{ℕ, ◌<◌}
use mathlib.Core.Path.{◌≡◌, refl, sym, ap, ◌∙◌, subst}
use mathlib.Core.Logic.{◌⊎◌, inl, inr}
use mathlib.Core.Bool.{false}
use mathlib.Core.List.{List, [], ◌∷◌, ◌++◌, append_assoc, append-nil}
use native.Mathlib.Decide.{dec_lt}
use native.Mathlib.Omega.{arith}
use lib.ListN.{length, length-append}
use Rattle.rules.specs.Rfc3629.{Octets}
use Rattle.rules.proofs.Characters.{same_head, same_tail}
use Rattle.meaning.specs.Meaning.{Meaning}
use Rattle.grammar.specs.Values.{Loose}
use Rattle.machine.specs.Machine.{Ok, reading}
use Rattle.grammar.specs.Refused.{Opens, Stuck}
use Rattle.machine.proofs.Sound.{derived}
use Rattle.machine.proofs.Refusals.Loose.{loose_value}
use Rattle.machine.proofs.Refusals.Opens.{fewer}

-- ---- one place

-- the longer of two beginnings of a text begins with the shorter and the byte after it
longer : (a c : List ℕ) (b : ℕ) (r s : List ℕ) → a ++ (b ∷ r) ≡ c ++ s → length a < length c → (x : List ℕ) × (c ≡ (a ++ (b ∷ [])) ++ x)
longer a [] b r s e h = absurd (omega arith)
longer [] (y ∷ c) b r s e h = (c, ap {B = List ℕ} (λ (z : ℕ). z ∷ c) (sym (same_head e)))
longer (x ∷ a) (y ∷ c) b r s e h = let w = longer a c b r s (same_tail e) (omega arith) in (w.0, cons (sym (same_head e)) w.1)
  where
    cons : {c' : List ℕ} → y ≡ x → c ≡ c' → y ∷ c ≡ x ∷ c'
    cons f g = cc

record Byte (t : List ℕ) (p : ℕ) : Type 0 where
  front : List ℕ
  at : ℕ
  rest : List ℕ
  split : t ≡ front ++ (at ∷ rest)
  place : p ≡ length front
  opens : Opens front
  stops : Opens (front ++ (at ∷ [])) → ⊥

abbrev Found : List ℕ → ℕ → Type 0
Found t p = Byte t p ⊎ (Opens t × (p ≡ length t) × ((m : Meaning) → Loose false t m → ⊥))

found : {t : List ℕ} {p : ℕ} → Stuck t p → Found t p
found (Stuck.byte a b r h n) = inl (record { front = a; at = b; rest = r; split = refl; place = refl; opens = h; stops = n })
found (Stuck.end t h n) = inr (h, refl, n)

-- none is stuck before what opens
not_before : (t : List ℕ) (p : ℕ) (h : Byte t p) (c s : List ℕ) → t ≡ c ++ s → Opens c → length h.front < length c → ⊥
not_before t p h c s e o l =
    let w = longer h.front c h.at h.rest s (sym h.split ∙ e) l in h.stops (fewer (h.front ++ (h.at ∷ [])) w.0 (subst Opens w.1 o))

inside : (t : List ℕ) (p : ℕ) (h : Byte t p) → length h.front < length t
inside t p h = let e = ap length h.split ∙ length-append h.front (h.at ∷ h.rest) in omega arith

pub stuck_once : (t : List ℕ) (p q : ℕ) → Stuck t p → Stuck t q → p ≡ q
stuck_once t p q x y = go (found x) (found y)
  where
    both : (h : Byte t p) (g : Byte t q) → Dec (length h.front < length g.front) → Dec (length g.front < length h.front) → p ≡ q
    both h g (yes i) j = absurd (not_before t p h g.front (g.at ∷ g.rest) g.split g.opens i)
    both h g (no i) (yes j) = absurd (not_before t q g h.front (h.at ∷ h.rest) h.split h.opens j)
    both h g (no i) (no j) = let e = h.place in let f = g.place in omega arith

    go : Found t p → Found t q → p ≡ q
    go (inl h) (inl g) = both h g (dec_lt _ _) (dec_lt _ _)
    go (inl h) (inr g) = absurd (not_before t p h t [] (sym (append-nil t)) g.0 (inside t p h))
    go (inr h) (inl g) = absurd (not_before t q g t [] (sym (append-nil t)) h.0 (inside t q g))
    go (inr h) (inr g) = h.1 ∙ sym g.1

-- what is accepted is stuck nowhere
pub accepted : (t : List ℕ) (m : Meaning) (p : ℕ) → Octets t → reading t ≡ Ok m → Stuck t p → ⊥
accepted t m p o e x = go (found x)
  where
    means : Loose false t m
    means = let h = derived t m o e in subst (λ (s : List ℕ). Loose false s m) (sym h.split) (Loose.text h.layout (loose_value h.value) h.last tt)

    go : Found t p → ⊥
    go (inl h) =
        h.stops (Opens.opens h.rest m (subst (λ (s : List ℕ). Loose false s m) (h.split ∙ sym (append_assoc h.front (h.at ∷ []) h.rest)) means))
    go (inr h) = h.2 m means
