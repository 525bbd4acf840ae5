-- The machine and the grammar agree on every text; so the grammar gives no text two meanings. Assumes nothing.
use Prim.Native.Nat.{ℕ, suc, ◌≤◌}
use mathlib.Core.Path.{◌≡◌, refl}
use mathlib.Core.Bool.{Bool, true, false, cond}
use mathlib.Core.List.{List, [], ◌∷◌, ◌++◌}
use native.Mathlib.Omega.{arith}
use lib.Dec.{leb}
use lib.ListN.{length}
use borrow.Author.Tests.{le-leb, leb-true}
use Rattle.std.specs.Prelude.{Result}
use Rattle.std.specs.Prelude as Std
use Rattle.rules.specs.declared.IllFormed.{IllFormed}
use Rattle.rules.specs.Between.Decided.{judged}
use Rattle.rules.proofs.Decided.{judged_done, done_judged}
use Rattle.meaning.specs.Limits.{text_limit, depth_limit}
use Rattle.meaning.specs.Meaning.{Meaning}
use Rattle.meaning.specs.declared.Refusal.{Refusal}
use Rattle.meaning.specs.declared.Refusal.TheVariants.{TextTooLong}
use Rattle.grammar.specs.Values.{Value, Loose}
use Rattle.meaning.specs.Good.{Good}
use Rattle.meaning.specs.Canonical.{canonical}
use Rattle.grammar.proofs.Utf8.{text_octets}
use Rattle.grammar.proofs.Canonical.{value_derived}
use Rattle.machine.specs.Machine.{Ok, No, Conf, fail, step, read}
use Rattle.machine.specs.Verdict.{decoded, verdict}
use Rattle.machine.proofs.Runs.{adv}
use Rattle.machine.proofs.Complete.{value_reads, reads}
use Rattle.machine.proofs.Sound.{derives}

loose_length : {t : List ℕ} {m : Meaning} → Loose true t m → length t ≤ text_limit
loose_length (Loose.text w v l h) = h

-- what the grammar derives, the machine reads, with that meaning
pub complete : {t : List ℕ} {m : Meaning} → Loose true t m → verdict t ≡ Ok m
unfolding verdict decoded
complete {t} x = rw (le-leb (length t) text_limit (loose_length x), done_judged (text_octets x)) (reads x)

refused : {r : Refusal} {m : Meaning} → No r ≡ Ok m → ⊥
refused e = let z : ◌≡◌ {A = ℕ} 0 1 = cc in omega arith

-- what the machine accepts, the grammar derives
pub sound : (t : List ℕ) (m : Meaning) → verdict t ≡ Ok m → Loose true t m
unfolding verdict decoded
sound t m e = by_length (leb (length t) text_limit) refl e
  where
    by_utf8 : length t ≤ text_limit → (a : Result (Unit {0}) IllFormed) → judged t ≡ a → decoded a t ≡ Ok m → Loose true t m
    by_utf8 l (Std.Ok v) f g = derives t m (judged_done f) l g
    by_utf8 l (Std.Err k) f g = absurd (refused g)

    by_length : (x : Bool) → leb (length t) text_limit ≡ x → cond x (decoded (judged t) t) (No TextTooLong) ≡ Ok m → Loose true t m
    by_length true f g = by_utf8 (leb-true _ _ f) (judged t) refl g
    by_length false f g = absurd (refused g)

-- the grammar gives no text two meanings
pub loosely_unambiguous : {t : List ℕ} {m n : Meaning} → Loose true t m → Loose true t n → m ≡ n
loosely_unambiguous x y = let e = complete x in let f = complete y in cc

-- two good meanings with one canonical text are one, however long it is
pub same_canonical : (m n : Meaning) → Good m → Good n → canonical m ≡ canonical n → m ≡ n
same_canonical m n g h e = let x = value_reads (canonical_value m g) in let y = value_reads (canonical_value n h) in cc
  where
    canonical_value : (k : Meaning) → Good k → Value true depth_limit (canonical k) k
    canonical_value k good = value_derived k good.parts depth_limit good.shallow

-- ---- running on

-- where the machine stands after the bytes
unfoldable pub run : ℕ → Conf → List ℕ → Conf
run p c [] = c
run p c (b ∷ t) = run (suc p) (step p c b) t

-- to read a and then b is to read both
pub read_join : (p : ℕ) (c : Conf) (a b : List ℕ) → read p c (a ++ b) ≡ read (adv p a) (run p c a) b
unfolding read run
read_join p c [] b = refl
read_join p c (x ∷ a) b = read_join (suc p) (step p c x) a b

-- after a refusal at some byte no later byte changes it
pub absorbing : (p : ℕ) (r : Refusal) (t : List ℕ) → read p (fail r) t ≡ No r
unfolding read
absorbing p r [] = refl
absorbing p r (b ∷ t) = absorbing (suc p) r t
