-- Where the machine gives 3, the text is stuck there. Assumes nothing.
use Prim.Native.Nat.{ℕ}
use mathlib.Core.Path.{◌≡◌, refl, sym, ◌∙◌, subst}
use mathlib.Core.Bool.{false}
use mathlib.Core.List.{List, [], ◌∷◌, ◌++◌, append_assoc, append-nil}
use native.Mathlib.Omega.{arith}
use lib.ListN.{length}
use Rattle.rules.specs.Rfc3629.{Octets}
use Rattle.meaning.specs.declared.Refusal.TheVariants.{NotGrammar}
use Rattle.meaning.specs.Meaning.{Meaning}
use Rattle.grammar.specs.Comments.{Ws}
use Rattle.grammar.specs.Values.{Loose}
use Rattle.machine.specs.Machine.{No, reading, Conf, fail, step}
use Rattle.grammar.specs.Refused.{Opens, Stuck}
use Rattle.machine.proofs.Runs.{adv}
use Rattle.machine.proofs.Refusals.Bare.{never_3}
use Rattle.machine.proofs.Refusals.Refuses.{init, after, Refuses, refused_at, adv_length, whatever_follows}
use Rattle.machine.proofs.Refusals.Confs.{ConfAt}
use Rattle.machine.proofs.Refusals.Reached.{reached}
use Rattle.machine.proofs.Refusals.Viable.{Fails, conf_opens, opens_before}

-- ---- with the byte at the place, or at the end

-- at the end the text is none of the bare grammar
no_text : (t : List ℕ) (q : ℕ) → reading t ≡ No (NotGrammar q) → (m : Meaning) → Loose false t m → ⊥
no_text t q e m x = never_3 x q e

-- with the byte there the bytes begin none
hopeless : (a : List ℕ) (b q : ℕ) → step (adv 0 a) (after a) b ≡ fail (NotGrammar q) → Opens (a ++ (b ∷ [])) → ⊥
hopeless a b q e (Opens.opens s m x) = never_3 (rw append_assoc at x) q (whatever_follows a b s (NotGrammar q) e)

-- ---- where the text is stuck

pub stands : (t a r : List ℕ) → t ≡ a ++ r → Octets t → ConfAt t (adv 0 a) (after a) a
stands t a r e o = reached t a 0 init [] r e refl o (refl, Ws.none)

place : (a : List ℕ) (q : ℕ) → q ≡ adv 0 a → length a ≡ q
place a q e = sym (e ∙ adv_length a 0 ∙ omega arith)

fails_by : (c : Conf) (q : ℕ) → c ≡ fail (NotGrammar q) → Fails c
fails_by c q e = rw e tt

stuck_at_lem : (t : List ℕ) (q : ℕ) → Octets t → reading t ≡ No (NotGrammar q) → Refuses 0 init (NotGrammar q) t → Stuck t q
stuck_at_lem t q o g (Refuses.at_byte a b s l h e) =
    subst (Stuck (a ++ (b ∷ s))) (place a q h)
    (Stuck.byte a b s (opens_before (a ++ (b ∷ s)) (adv 0 a) (after a) b a s l o (stands (a ++ (b ∷ s)) a (b ∷ s) refl o) (fails_by _ q e)) (hopeless a b q e))
stuck_at_lem t q o g (Refuses.at_end u l h e) =
    subst (Stuck u) (place u q h) (Stuck.end u (conf_opens u (adv 0 u) (after u) u l o (stands u u [] (sym (append-nil u)) o)) (no_text u q g))

-- 3 is given at the first byte that no rule allows there, or at the text's length
pub stuck : (t : List ℕ) (q : ℕ) → Octets t → reading t ≡ No (NotGrammar q) → Stuck t q
stuck t q o e = stuck_at_lem t q o e (refused_at t (NotGrammar q) e)
