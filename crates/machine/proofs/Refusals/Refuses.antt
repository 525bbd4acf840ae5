-- Where the machine refuses: at a byte, or at the text's end; up to there it lives. Assumes nothing.
use Prim.Native.Nat.{ℕ, suc, ◌+◌}
use mathlib.Core.Path.{◌≡◌, refl, sym, ap, ◌∙◌, subst}
use mathlib.Core.List.{List, [], ◌∷◌, ◌++◌}
use native.Mathlib.Omega.{arith}
use lib.ListN.{length}
use Rattle.meaning.specs.Limits.{depth_limit}
use Rattle.meaning.specs.declared.Refusal.{Refusal}
use Rattle.machine.specs.Machine.{Verdict, No, reading, Conf, at, fail, base, want, step, read, finish}
use Rattle.machine.proofs.Runs.{adv}
use Rattle.machine.proofs.Whole.{run, read_join, absorbing}
use Rattle.machine.proofs.Places.{ConfKept, Live, Stepped, steps_on, stepped_kept, VerdictBlamed, ends_on}
use Rattle.machine.proofs.Numeric.{Blame}

-- before any byte
abbrev pub init : Conf
init = at (base want) depth_limit []

-- where the machine stands after the bytes a of a text
abbrev pub after : List ℕ → Conf
after a = run 0 init a

pub data Refuses (p : ℕ) (c : Conf) (r : Refusal) : List ℕ → Type 0 where
  at_byte : (a : List ℕ) (b : ℕ) (s : List ℕ) → Live (run p c a) → Blame (adv p a) r → step (adv p a) (run p c a) b ≡ fail r → Refuses p c r (a ++ (b ∷ s))
  at_end : (t : List ℕ) → Live (run p c t) → Blame (adv p t) r → finish (adv p t) (run p c t) ≡ No r → Refuses p c r t

blamed_end : (p : ℕ) (r : Refusal) (v : Verdict) → VerdictBlamed p v → v ≡ No r → Blame p r
blamed_end p r v h e = subst (λ (x : Verdict). VerdictBlamed p x) e h

no_refusal : {r s : Refusal} → No r ≡ No s → r ≡ s
no_refusal e = cc

module _ (r : Refusal) where
  -- one byte before
  before : (p : ℕ) (c : Conf) (b : ℕ) (t : List ℕ) → Refuses (suc p) (step p c b) r t → Refuses p c r (b ∷ t)
  unfolding run
  before p c b t (Refuses.at_byte a x s l h e) = Refuses.at_byte (b ∷ a) x s l h e
  before p c b t (Refuses.at_end u l h e) = Refuses.at_end (b ∷ u) l h e

  pub refuses : (t : List ℕ) (p : ℕ) (c : Conf) → Live c → ConfKept p c → read p c t ≡ No r → Refuses p c r t
  unfolding read run
  refuses [] p c l k e = Refuses.at_end [] l (blamed_end p r (finish p c) (ends_on p c l k) e) e
  refuses (b ∷ t) p c l k e = go (λ l k. before p c b t (refuses t (suc p) (step p c b) l k e)) (step p c b) refl (steps_on p c b l k) e
    where
      go : (Live (step p c b) → ConfKept (suc p) (step p c b) → Refuses p c r (b ∷ t)) → (d : Conf) → step p c b ≡ d → Stepped p d → read (suc p) d t ≡ No r
          → Refuses p c r (b ∷ t)
      go w (fail x) f s e = let z : x ≡ r = no_refusal (sym (absorbing (suc p) x t) ∙ e) in Refuses.at_byte [] b t l (subst (Blame p) z s) (f ∙ ap fail z)
      go w (at m d k) f s e = w (subst Live (sym f) tt) (subst (ConfKept (suc p)) (sym f) (stepped_kept p (at m d k) s))

pub refused_at : (t : List ℕ) (r : Refusal) → reading t ≡ No r → Refuses 0 init r t
unfolding reading
refused_at t r e = refuses r t 0 init tt tt e

pub adv_length : (a : List ℕ) (p : ℕ) → adv p a ≡ p + length a
adv_length [] p = omega arith
adv_length (b ∷ a) p = adv_length a (suc p) ∙ omega arith

-- the same refusal, whatever comes after the byte
pub whatever_follows : (a : List ℕ) (b : ℕ) (s : List ℕ) (r : Refusal) → step (adv 0 a) (after a) b ≡ fail r → reading (a ++ (b ∷ s)) ≡ No r
unfolding reading read
whatever_follows a b s r e = read_join 0 init a (b ∷ s) ∙ ap (λ (c : Conf). read (suc (adv 0 a)) c s) e ∙ absorbing (suc (adv 0 a)) r s
