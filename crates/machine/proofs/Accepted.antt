-- What is accepted and what is refused, where every key may stand once in its object: no text has two meanings, or two refusals, or both; and
-- which it has is told by the keys that the machine hears. Assumes nothing.
use Prim.Native.Nat.{ℕ, ◌≤◌}
use mathlib.Core.Path.{◌≡◌, sym, ap, ◌∙◌}
use mathlib.Core.Bool.{true}
use mathlib.Core.Option.{none, some}
use mathlib.Core.List.{List, []}
use native.Mathlib.Omega.{arith}
use Rattle.meaning.specs.Meaning.{Meaning}
use Rattle.meaning.specs.declared.Refusal.{Refusal}
use Rattle.meaning.specs.declared.Refusal.TheVariants.{RepeatedKey}
use Rattle.meaning.specs.Between.Events.{Event, first_repeat}
use Rattle.meaning.proofs.Events.{none_once, once_none}
use Rattle.grammar.specs.Values.{Loose, Text}
use Rattle.grammar.specs.Refused.{TextRefused, loose, repeated}
use Rattle.machine.specs.Heard.{Told, telling, heard_of}
use Rattle.machine.proofs.Whole.{loosely_unambiguous}
use Rattle.machine.proofs.Refusals.Whole.{one_loose_refusal, loose_not_refused}
use Rattle.machine.proofs.Repeated.{text_keys_lem, heard_one}

-- no text has two meanings
pub unambiguous : {t : List ℕ} {m n : Meaning} → Text t m → Text t n → m ≡ n
unambiguous x y = loosely_unambiguous x.loose y.loose

-- nor two refusals
pub one_text_refusal : {t : List ℕ} {r s : Refusal} → TextRefused t r → TextRefused t s → r ≡ s
one_text_refusal (loose x) (loose y) = one_loose_refusal x y
one_text_refusal (loose x) (repeated y z f) = absurd (loose_not_refused y x)
one_text_refusal (repeated x z f) (loose y) = absurd (loose_not_refused x y)
one_text_refusal (repeated {p = p} x z f) (repeated {p = q} y w g) =
    let a : p ≤ q = f q w in
    let b : q ≤ p = g p z in
    ap RepeatedKey (omega arith)

-- nor both
pub not_refused : {t : List ℕ} {m : Meaning} {r : Refusal} → Text t m → TextRefused t r → ⊥
not_refused x (loose y) = loose_not_refused x.loose y
not_refused {m = m} x (repeated {p = p} y z f) =
    let k = text_keys_lem x.loose in
    k.none_repeats (once_none k.keys m k.same x.single) p z

-- ---- by the keys that are heard

module _ {t : List ℕ} {m : Meaning} (x : Loose true t m) (keys : List Event) (h : (telling t).heard ≡ heard_of keys) where
  heard_keys : (text_keys_lem x).keys ≡ keys
  heard_keys = heard_one (text_keys_lem x).keys keys (sym (ap (λ (y : Told). y.heard) (text_keys_lem x).heard) ∙ h)

  pub none_accepted : first_repeat [] keys ≡ none → Text t m
  none_accepted e = let k = text_keys_lem x in record {
    loose = x;
    single = none_once k.keys m k.same (ap (first_repeat []) heard_keys ∙ e);
  }

  pub first_refused : (q : ℕ) → first_repeat [] keys ≡ some q → TextRefused t (RepeatedKey q)
  first_refused q e = let y = (text_keys_lem x).first q (ap (first_repeat []) heard_keys ∙ e) in repeated x y.0 y.1
