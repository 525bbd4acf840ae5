-- The keys of a derivation, in the order of the text, with their first places; and where each object begins and ends. Assumes nothing.
use Prim.Native.Nat.{ℕ, suc}
use mathlib.Core.Bool.{true}
use mathlib.Core.List.{List, [], ◌∷◌, ◌++◌}
use Rattle.meaning.specs.Meaning.{Meaning}
use Rattle.grammar.specs.Values.{Inside, elements, members, Value, Rest, After, Item, Loose}
use Rattle.meaning.specs.Between.Events.{Event, begins, ends, named}
use Rattle.machine.proofs.Runs.{adv}

-- at the end of an object
abbrev pub closing : Inside → List Event
closing (elements x) = []
closing (members x) = ends ∷ []

-- from the place on where the derivation's bytes begin
abbrev Keys : Type 0
Keys = ℕ → List Event

unfoldable pub value_keys : {d : ℕ} {a : List ℕ} {m : Meaning} → Value true d a m → ℕ → List Event
value_keys h = elim h as (λ d a m _. Keys) (λ d x a y _. Keys) (λ d x a y _. Keys) (λ d x a y _. Keys) [
  | Value.null_word ↦ λ p. []
  | Value.true_word ↦ λ p. []
  | Value.false_word ↦ λ p. []
  | Value.number y ↦ λ p. []
  | Value.string y ↦ λ p. []
  | Value.binary y ↦ λ p. []
  | Value.time_value y ↦ λ p. []
  | Value.array y (z → ih) ↦ λ p. ih (suc p)
  | Value.object y (z → ih) ↦ λ p. begins ∷ ih (suc p)
  | Rest.close {x = x} y c ↦ λ p. closing x
  | Rest.item {w = w} {a = a} l (i → ih) (t → jh) ↦ λ p. ih (adv p w) ++ jh (adv (adv p w) a)
  | After.end {x = x} y c ↦ λ p. closing x
  | After.comma {w = w} l (t → ih) ↦ λ p. ih (suc (adv p w))
  | Item.element (v → ih) ↦ ih
  | Item.member {c = c} {u = u} {v = v} {w = w} y l j (t → ih) ↦ λ p. named p u ∷ ih (adv (suc (adv (adv p c) v)) w)
]

unfoldable pub rest_keys : {d : ℕ} {x y : Inside} {a : List ℕ} → Rest true d x a y → ℕ → List Event
rest_keys h = elim h as (λ d a m _. Keys) (λ d x a y _. Keys) (λ d x a y _. Keys) (λ d x a y _. Keys) [
  | Value.null_word ↦ λ p. []
  | Value.true_word ↦ λ p. []
  | Value.false_word ↦ λ p. []
  | Value.number y ↦ λ p. []
  | Value.string y ↦ λ p. []
  | Value.binary y ↦ λ p. []
  | Value.time_value y ↦ λ p. []
  | Value.array y (z → ih) ↦ λ p. ih (suc p)
  | Value.object y (z → ih) ↦ λ p. begins ∷ ih (suc p)
  | Rest.close {x = x} y c ↦ λ p. closing x
  | Rest.item {w = w} {a = a} l (i → ih) (t → jh) ↦ λ p. ih (adv p w) ++ jh (adv (adv p w) a)
  | After.end {x = x} y c ↦ λ p. closing x
  | After.comma {w = w} l (t → ih) ↦ λ p. ih (suc (adv p w))
  | Item.element (v → ih) ↦ ih
  | Item.member {c = c} {u = u} {v = v} {w = w} y l j (t → ih) ↦ λ p. named p u ∷ ih (adv (suc (adv (adv p c) v)) w)
]

unfoldable pub after_keys : {d : ℕ} {x y : Inside} {a : List ℕ} → After true d x a y → ℕ → List Event
after_keys h = elim h as (λ d a m _. Keys) (λ d x a y _. Keys) (λ d x a y _. Keys) (λ d x a y _. Keys) [
  | Value.null_word ↦ λ p. []
  | Value.true_word ↦ λ p. []
  | Value.false_word ↦ λ p. []
  | Value.number y ↦ λ p. []
  | Value.string y ↦ λ p. []
  | Value.binary y ↦ λ p. []
  | Value.time_value y ↦ λ p. []
  | Value.array y (z → ih) ↦ λ p. ih (suc p)
  | Value.object y (z → ih) ↦ λ p. begins ∷ ih (suc p)
  | Rest.close {x = x} y c ↦ λ p. closing x
  | Rest.item {w = w} {a = a} l (i → ih) (t → jh) ↦ λ p. ih (adv p w) ++ jh (adv (adv p w) a)
  | After.end {x = x} y c ↦ λ p. closing x
  | After.comma {w = w} l (t → ih) ↦ λ p. ih (suc (adv p w))
  | Item.element (v → ih) ↦ ih
  | Item.member {c = c} {u = u} {v = v} {w = w} y l j (t → ih) ↦ λ p. named p u ∷ ih (adv (suc (adv (adv p c) v)) w)
]

unfoldable pub item_keys : {d : ℕ} {x y : Inside} {a : List ℕ} → Item true d x a y → ℕ → List Event
item_keys h = elim h as (λ d a m _. Keys) (λ d x a y _. Keys) (λ d x a y _. Keys) (λ d x a y _. Keys) [
  | Value.null_word ↦ λ p. []
  | Value.true_word ↦ λ p. []
  | Value.false_word ↦ λ p. []
  | Value.number y ↦ λ p. []
  | Value.string y ↦ λ p. []
  | Value.binary y ↦ λ p. []
  | Value.time_value y ↦ λ p. []
  | Value.array y (z → ih) ↦ λ p. ih (suc p)
  | Value.object y (z → ih) ↦ λ p. begins ∷ ih (suc p)
  | Rest.close {x = x} y c ↦ λ p. closing x
  | Rest.item {w = w} {a = a} l (i → ih) (t → jh) ↦ λ p. ih (adv p w) ++ jh (adv (adv p w) a)
  | After.end {x = x} y c ↦ λ p. closing x
  | After.comma {w = w} l (t → ih) ↦ λ p. ih (suc (adv p w))
  | Item.element (v → ih) ↦ ih
  | Item.member {c = c} {u = u} {v = v} {w = w} y l j (t → ih) ↦ λ p. named p u ∷ ih (adv (suc (adv (adv p c) v)) w)
]

unfoldable pub text_keys : {t : List ℕ} {m : Meaning} → Loose true t m → List Event
text_keys (Loose.text {w = w} l x y h) = value_keys x (adv 0 w)
