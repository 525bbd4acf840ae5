-- Signs of punctuation, passed. Assumes nothing.
use Prim.Native.Nat.{ℕ, zero, suc, ◌+◌, ◌-◌, ◌≤◌, ◌<◌}
use mathlib.Core.Path.{◌≡◌, refl, ◌∙◌}
use mathlib.Core.Bool.{true}
use mathlib.Core.Logic.{◌⊎◌, inl, inr}
use mathlib.Core.List.{List, [], ◌∷◌}
use native.Mathlib.Omega.{arith}
use native.Mathlib.Nat.{add-zero}
use lib.ListN.{length, get_or}
use lib.Seq.{sets}
use borrow.Author.Tests.{eq-eqb, ne_eqb, lt-ltb}
use Rattle.meaning.specs.Letters.{ch}
use Rattle.meaning.specs.Limits.{depth_limit}
use Rattle.machine.specs.Machine.{Bracket, square, curly, class_of, close_c, open_c}
use Rattle.machine.proofs.Classes.{opening, closing}
use Rattle.arriving.specs.declared.states.Due as DueOf
use Rattle.arriving.specs.declared.states.Due.TheVariants as Due
use Rattle.arriving.specs.declared.states.Mode.TheVariants as Mode
use Rattle.arriving.specs.declared.leaps.Spot.{Spot}
use Rattle.arriving.specs.Between.Steps.{Stand, next, on_mode, on_due, between, top_of, kind_of, due_in, after_value, after_key, on_after, begun}
use Rattle.arriving.specs.Between.Small.{null_at, true_at, false_at}
use Rattle.arriving.specs.Between.Steps as Steps
use Rattle.arriving.specs.Between.Arriving.{sane_mode}
use Rattle.arriving.specs.Between.Leaps.{Skips, due_at, stand_of, spot_of, Stepped, stays, steps}
use Rattle.arriving.proofs.LeapsLaws.{due_back, within_more, leaps_none, leaps_step}

-- the innermost open bracket is one
pub top_deep : (ks : List ℕ) (d k : ℕ) → top_of ks d ≡ k → 1 ≤ k → 1 ≤ d
unfolding top_of
top_deep ks zero k e h = absurd (omega arith)
top_deep ks (suc d) k e h = omega arith

pub close_class : (b : ℕ) (c : Bracket) → b ≡ closing c → class_of b ≡ close_c c
close_class b square e = rw e
close_class b curly e = rw e

pub open_class : (b : ℕ) (c : Bracket) → b ≡ opening c → class_of b ≡ open_c c
open_class b square e = rw e
open_class b curly e = rw e

module _ (x : Spot) (ks : List ℕ) (y : Spot) where
  pub opened_steps : (k : ℕ) (u : DueOf.Due) (c : Bracket) → x.depth < depth_limit → k ≡ kind_of c → u ≡ due_in c
      → y ≡ spot_of (x.at + 1) u (x.depth + 1) (x.records + 1) x.stored → (ls : List ℕ) → ls ≡ sets ks x.depth (k ∷ [])
      → Stepped (λ s p. Steps.opened s p c) x ks y ls
  unfolding Steps.opened
  opened_steps k u c h e f g ls l =
      rw (g, l, e, f) (steps refl (omega arith) (omega arith) refl (λ p. rw (lt-ltb x.depth depth_limit h, due_back (due_in c))))

  pub closed_steps : (k t : ℕ) (c : Bracket) → x.depth ≤ depth_limit → t ≡ top_of ks x.depth → t ≡ k → k ≡ kind_of c
      → y ≡ spot_of (x.at + 1) Due.AfterValue (x.depth - 1) x.records x.stored → Stepped (λ s p. Steps.closed s p c) x ks y ks
  unfolding Steps.closed
  closed_steps k t c d h e f g =
      let z : top_of ks x.depth ≡ kind_of c = cc in
      rw g (steps refl (omega arith) (omega arith) refl (λ p. rw (eq-eqb _ _ z)))

  pub comma_square : (t : ℕ) → x.depth ≤ depth_limit → t ≡ top_of ks x.depth → t ≡ 1
      → y ≡ spot_of (x.at + 1) Due.Value x.depth (x.records + 0) (x.stored + 0) → Stepped Steps.comma x ks y ks
  unfolding Steps.comma
  comma_square t d h e g =
      let z : top_of ks x.depth ≡ 1 = cc in
      rw g (steps refl (omega arith) (omega arith) (omega arith) (λ p. rw (eq-eqb _ _ z, add-zero, add-zero)))

  pub comma_curly : (t : ℕ) → x.depth ≤ depth_limit → t ≡ top_of ks x.depth → t ≡ 2
      → y ≡ spot_of (x.at + 1) Due.Key x.depth (x.records + 0) (x.stored + 0) → Stepped Steps.comma x ks y ks
  unfolding Steps.comma
  comma_curly t d h e g =
      let z : top_of ks x.depth ≡ 2 = cc in
      rw g (steps refl (omega arith) (omega arith) (omega arith)
      (λ p. rw (ne_eqb (top_of ks x.depth) 1 (λ q. omega arith), eq-eqb _ _ z, add-zero, add-zero)))

  -- a byte after a value
  module _ (b : ℕ) (a : after_value (due_at x) ≡ true) where
    pub after_close : (c : Bracket) → b ≡ closing c → Stepped (λ s p. Steps.closed s p c) x ks y ks
        → Stepped (λ s p. on_after s p (class_of b)) x ks y ks
    after_close c e (stays f g) = stays f g
    after_close c e (steps f g h i j) = steps f g h i (λ p. rw (close_class b c e, a) (j p))

  -- a byte at its place
  pub stepped_skips : (part : List ℕ) (f : Stand → ℕ → Stand) (ls : List ℕ) → x.at < length part
      → ((p : ℕ) → next (stand_of x ks) p (get_or part x.at 0) ≡ f (stand_of x ks) p) → Stepped f x ks y ls → Skips part x ks y ls
  unfolding sane_mode
  stepped_skips part f ls h n (stays e g) = rw (e, g) (leaps_none part (stand_of x ks) x.at (omega arith))
  stepped_skips part f ls h n (steps e d r w j) =
      leaps_step part (stand_of x ks) x.at (stand_of y ls) y.at h e (λ p. n p ∙ j p)
      (λ k i. within_more k _ _ i d r (omega arith) refl)

-- ---- by what is due

module _ (part : List ℕ) (x : Spot) (ks : List ℕ) (y : Spot) (ls : List ℕ) (within : x.at < length part) where
  pub value_opens : (c : Bracket) → due_at x ≡ Due.Value → get_or part x.at 0 ≡ opening c → Stepped (λ s p. Steps.opened s p c) x ks y ls
      → Skips part x ks y ls
  unfolding on_mode between
  value_opens c u e h =
      stepped_skips x ks y part (λ s p. Steps.opened s p c) ls within (λ p. simp (u, open_class (get_or part x.at 0) c e)) h

  pub value_closes : due_at x ≡ Due.Value → get_or part x.at 0 ≡ ch "]" → Stepped (λ s p. Steps.closed s p square) x ks y ls → Skips part x ks y ls
  unfolding on_mode between
  value_closes u e h = stepped_skips x ks y part (λ s p. Steps.closed s p square) ls within (λ p. simp (u, e)) h

  pub key_closes : due_at x ≡ Due.Key → get_or part x.at 0 ≡ ch "}" → Stepped (λ s p. Steps.closed s p curly) x ks y ls → Skips part x ks y ls
  unfolding on_mode between
  key_closes u e h = stepped_skips x ks y part (λ s p. Steps.closed s p curly) ls within (λ p. simp (u, e)) h

  -- where a value or a key has come
  module _ (u : DueOf.Due) (e : due_at x ≡ u) (b : ℕ) (f : b ≡ get_or part x.at 0) (h : Stepped (λ s p. on_after s p (class_of b)) x ks y ls) where
    pub value_skips : (u ≡ Due.AfterValue) ⊎ ((u ≡ Due.AfterString) ⊎ (u ≡ Due.AfterBinary)) → Skips part x ks y ls
    unfolding on_mode between
    value_skips c = stepped_skips x ks y part (λ s p. on_after s p (class_of b)) ls within (λ p. by p c) h
      where
        by : (p : ℕ) → (u ≡ Due.AfterValue) ⊎ ((u ≡ Due.AfterString) ⊎ (u ≡ Due.AfterBinary))
            → on_due (stand_of x ks) p (get_or part x.at 0) (due_at x) ≡ on_after (stand_of x ks) p (class_of b)
        by p (inl c) = rw (f, e ∙ c)
        by p (inr (inl c)) = rw (f, e ∙ c)
        by p (inr (inr c)) = rw (f, e ∙ c)

    pub key_skips : (u ≡ Due.AfterKey) ⊎ (u ≡ Due.AfterKeyString) → Skips part x ks y ls
    unfolding on_mode between
    key_skips c = stepped_skips x ks y part (λ s p. on_after s p (class_of b)) ls within (λ p. by p c) h
      where
        by : (p : ℕ) → (u ≡ Due.AfterKey) ⊎ (u ≡ Due.AfterKeyString)
            → on_due (stand_of x ks) p (get_or part x.at 0) (due_at x) ≡ on_after (stand_of x ks) p (class_of b)
        by p (inl c) = rw (f, e ∙ c)
        by p (inr c) = rw (f, e ∙ c)

-- ---- words

module _ (x : Spot) (ks : List ℕ) (p b : ℕ) (u : due_at x ≡ Due.Value) where
  pub null_begins : b ≡ ch "n" → next (stand_of x ks) p b ≡ begun (stand_of x ks) (Mode.Spelling null_at) Due.AfterValue 0
  unfolding on_mode between
  null_begins e = rw (u, e)

  pub true_begins : b ≡ ch "t" → next (stand_of x ks) p b ≡ begun (stand_of x ks) (Mode.Spelling true_at) Due.AfterValue 0
  unfolding on_mode between
  true_begins e = rw (u, e)

  pub false_begins : b ≡ ch "f" → next (stand_of x ks) p b ≡ begun (stand_of x ks) (Mode.Spelling false_at) Due.AfterValue 0
  unfolding on_mode between
  false_begins e = rw (u, e)
