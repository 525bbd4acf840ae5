-- Runs of a scanner: complete forwards (`Goes`), sound backwards (`OutIs`, `accepted`). Assumes nothing.
use Prim.Native.Nat.{ℕ, suc, ◌<◌}
use mathlib.Core.Path.{◌≡◌, refl, sym, ◌∙◌, subst}
use mathlib.Core.List.{List, [], ◌∷◌, ◌++◌, append-nil}
use native.Mathlib.Omega.{arith}
use Rattle.meaning.specs.Letters.{ch}
use Rattle.grammar.specs.Comments.{Blank}
use Rattle.machine.specs.Scan.{Out, takes, stops, breaks, over}

-- a byte that may come after a number, a time value or a word: layout, a comma, a closing bracket, the text's end
pub data EndsItem : ℕ → Type 0 where
  blank : {b : ℕ} → Blank b → EndsItem b
  hash : EndsItem (ch "#")
  slash : EndsItem (ch "/")
  comma : EndsItem (ch ",")
  bracket : EndsItem (ch "]")
  brace : EndsItem (ch "}")
  end : EndsItem over

-- after a string part or a binary part also a plus, after a key a colon
pub data PartEnds : ℕ → Type 0 where
  ends : {b : ℕ} → EndsItem b → PartEnds b
  plus : PartEnds (ch "+")
  colon : PartEnds (ch ":")

pub data NoDigit : ℕ → Type 0 where
  under : {b : ℕ} → b < ch "0" → NoDigit b
  past : {b : ℕ} → ch "9" < b → NoDigit b

-- the place after the bytes
abbrev pub adv : ℕ → List ℕ → ℕ
adv p [] = p
adv p (b ∷ a) = adv (suc p) a

module _ {S M : Type 0} (scan : ℕ → S → ℕ → Out S M) where
  -- The item ends before b; or b is the space after a date, and it ends before what follows that if it is no digit.
  pub data Halt (p : ℕ) (s : S) (v : M) : ℕ → Type 0 where
    here : {b : ℕ} → scan p s b ≡ stops v → Halt p s v b
    spaced : {s' : S} → scan p s (ch " ") ≡ takes s' → ((q c : ℕ) → NoDigit c → scan q s' c ≡ stops v) → Halt p s v (ch " ")

  -- From s, at the place p, the scanner takes all of the bytes and then ends with the value v before every byte with F.
  pub data Goes (F : ℕ → Type 0) : ℕ → S → List ℕ → M → Type 0 where
    ends : {p : ℕ} {s : S} {v : M} → ((b : ℕ) → F b → Halt p s v b) → Goes F p s [] v
    goes : {p c : ℕ} {s s' : S} {a : List ℕ} {v : M} → Goes F (suc p) s' a v → scan p s c ≡ takes s' → Goes F p s (c ∷ a) v

  -- the constructors as functions: a tactic in an argument then sees its whole goal
  pub took : {F : ℕ → Type 0} {p c : ℕ} {s s' : S} {a : List ℕ} {v : M} → Goes F (suc p) s' a v → scan p s c ≡ takes s' → Goes F p s (c ∷ a) v
  took k e = Goes.goes k e

  pub halts : {F : ℕ → Type 0} {p : ℕ} {s : S} {v : M} → ((b : ℕ) → F b → scan p s b ≡ stops v) → Goes F p s [] v
  halts k = Goes.ends (λ b e. Halt.here (k b e))

  -- The same of the outcome: the scanner takes all of the bytes, and what it then does at every byte with F has Q.
  pub data HaltTo (Q : Out S M → Type 0) (p : ℕ) (s : S) : ℕ → Type 0 where
    here : {b : ℕ} → Q (scan p s b) → HaltTo Q p s b
    spaced : {s' : S} → scan p s (ch " ") ≡ takes s' → ((q c : ℕ) → NoDigit c → Q (scan q s' c)) → HaltTo Q p s (ch " ")

  pub data GoesTo (Q : Out S M → Type 0) (F : ℕ → Type 0) : ℕ → S → List ℕ → Type 0 where
    ends : {p : ℕ} {s : S} → ((b : ℕ) → F b → HaltTo Q p s b) → GoesTo Q F p s []
    goes : {p c : ℕ} {s s' : S} {a : List ℕ} → GoesTo Q F (suc p) s' a → scan p s c ≡ takes s' → GoesTo Q F p s (c ∷ a)

  pub took_to : {Q : Out S M → Type 0} {F : ℕ → Type 0} {p c : ℕ} {s s' : S} {a : List ℕ} → GoesTo Q F (suc p) s' a → scan p s c ≡ takes s'
      → GoesTo Q F p s (c ∷ a)
  took_to k e = GoesTo.goes k e

  pub halts_to : {Q : Out S M → Type 0} {F : ℕ → Type 0} {p : ℕ} {s : S} → ((b : ℕ) → F b → Q (scan p s b)) → GoesTo Q F p s []
  halts_to k = GoesTo.ends (λ b e. HaltTo.here (k b e))

  halt_value : {p b : ℕ} {s : S} {v : M} → HaltTo (λ o. o ≡ stops v) p s b → Halt p s v b
  halt_value (HaltTo.here e) = Halt.here e
  halt_value (HaltTo.spaced e k) = Halt.spaced e k

  -- with a value for an outcome
  pub goes_value : {F : ℕ → Type 0} {v : M} {p : ℕ} {s : S} {a : List ℕ} → GoesTo (λ o. o ≡ stops v) F p s a → Goes F p s a v
  goes_value (GoesTo.ends k) = Goes.ends (λ b e. halt_value (k b e))
  goes_value (GoesTo.goes k e) = Goes.goes (goes_value k) e

  value_halt : {Q : Out S M → Type 0} {p b : ℕ} {s : S} {v : M} → Q (stops v) → Halt p s v b → HaltTo Q p s b
  value_halt {Q} h (Halt.here e) = HaltTo.here (subst Q (sym e) h)
  value_halt {Q} h (Halt.spaced e k) = HaltTo.spaced e (λ q c n. subst Q (sym (k q c n)) h)

  pub value_goes : {Q : Out S M → Type 0} {F : ℕ → Type 0} {p : ℕ} {s : S} {a : List ℕ} {v : M} → Q (stops v) → Goes F p s a v → GoesTo Q F p s a
  value_goes h (Goes.ends k) = GoesTo.ends (λ b e. value_halt h (k b e))
  value_goes h (Goes.goes k e) = GoesTo.goes (value_goes h k) e

  -- a weaker outcome
  halt_weaker : {Q R : Out S M → Type 0} → ((o : Out S M) → Q o → R o) → {p b : ℕ} {s : S} → HaltTo Q p s b → HaltTo R p s b
  halt_weaker f {p} {b} {s} (HaltTo.here h) = HaltTo.here (f (scan p s b) h)
  halt_weaker f (HaltTo.spaced {s' = t} e k) = HaltTo.spaced e (λ q c n. f (scan q t c) (k q c n))

  pub goes_weaker : {Q R : Out S M → Type 0} → ((o : Out S M) → Q o → R o) → {F : ℕ → Type 0} {p : ℕ} {s : S} {a : List ℕ} → GoesTo Q F p s a → GoesTo R F p s a
  goes_weaker f (GoesTo.ends k) = GoesTo.ends (λ b e. halt_weaker f (k b e))
  goes_weaker f (GoesTo.goes k e) = GoesTo.goes (goes_weaker f k) e

  -- `Steps p s a s'`: from s the bytes a lead to s'
  pub data Steps : ℕ → S → List ℕ → S → Type 0 where
    stay : {p : ℕ} {s : S} → Steps p s [] s
    eat : {p b : ℕ} {a : List ℕ} {s s' s'' : S} → Steps (suc p) s' a s'' → scan p s b ≡ takes s' → Steps p s (b ∷ a) s''

  pub eats : {p b : ℕ} {a : List ℕ} {s s' s'' : S} → Steps (suc p) s' a s'' → scan p s b ≡ takes s' → Steps p s (b ∷ a) s''
  eats x e = Steps.eat x e

  pub steps_join : {p : ℕ} {s s' s'' : S} {a b : List ℕ} → Steps p s a s' → Steps (adv p a) s' b s'' → Steps p s (a ++ b) s''
  steps_join Steps.stay y = y
  steps_join (Steps.eat x e) y = Steps.eat (steps_join x y) e

  pub steps_go : {F : ℕ → Type 0} {p : ℕ} {s s' : S} {a b : List ℕ} {v : M} → Steps p s a s' → Goes F (adv p a) s' b v → Goes F p s (a ++ b) v
  steps_go Steps.stay y = y
  steps_go (Steps.eat x e) y = Goes.goes (steps_go x y) e

  pub steps_to : {Q : Out S M → Type 0} {F : ℕ → Type 0} {p : ℕ} {s s' : S} {a b : List ℕ} → Steps p s a s' → GoesTo Q F (adv p a) s' b
      → GoesTo Q F p s (a ++ b)
  steps_to Steps.stay y = y
  steps_to (Steps.eat x e) y = GoesTo.goes (steps_to x y) e

  -- the bytes lead to one state only
  pub taken_once : {x y : S} → ◌≡◌ {A = Out S M} (takes x) (takes y) → x ≡ y
  taken_once e = cc

  pub goes_end : {Q : Out S M → Type 0} {F : ℕ → Type 0} {p : ℕ} {s s' : S} {a : List ℕ} → Steps p s a s' → GoesTo Q F p s a → GoesTo Q F (adv p a) s' []
  goes_end Steps.stay g = g
  goes_end {Q = Q} {F = F} (Steps.eat {p = p} {a = a} x e) (GoesTo.goes g f) = goes_end x (subst (λ (t : S). GoesTo Q F (suc p) t a) (taken_once (sym f ∙ e)) g)

  -- and there the outcome is known, at the text's end
  pub end_out_lem : {Q : Out S M → Type 0} {F : ℕ → Type 0} {p : ℕ} {s : S} → F over → GoesTo Q F p s [] → Q (scan p s over)
  end_out_lem {Q} {F} {p} {s} f (GoesTo.ends h) = go (h over f) refl
    where
      go : {b : ℕ} → HaltTo Q p s b → b ≡ over → Q (scan p s over)
      go (HaltTo.here x) e = subst (λ (b : ℕ). Q (scan p s b)) e x
      go (HaltTo.spaced x k) e = absurd (omega arith)

-- What an outcome says, of a relation `Rest s a v`: from s, the bytes a end the item with the value v.
module _ {S M : Type 0} (Rest : S → List ℕ → M → Type 0) where
  abbrev pub OutIs : S → ℕ → Out S M → Type 0
  OutIs s b (takes s') = (a : List ℕ) (v : M) → Rest s' a v → Rest s (b ∷ a) v
  OutIs s b (stops v) = Rest s [] v
  OutIs s b (breaks r) = Unit {0}

-- back over the bytes of a run, with bytes that are still to come
module _ {S M : Type 0} (scan : ℕ → S → ℕ → Out S M) (Rest : S → List ℕ → M → Type 0) (is : (p : ℕ) (s : S) (b : ℕ) → OutIs Rest s b (scan p s b)) where
  pub steps_with : {p : ℕ} {s s' : S} {a r : List ℕ} {v : M} → Steps scan p s a s' → Rest s' r v → Rest s (a ++ r) v
  steps_with Steps.stay h = h
  steps_with {r = r} {v = v} (Steps.eat {p = p} {b = b} {a = a} {s = s} x e) h = subst (OutIs Rest s b) e (is p s b) (a ++ r) v (steps_with x h)

  pub steps_back : {p : ℕ} {s s' : S} {a : List ℕ} {v : M} → Steps scan p s a s' → Rest s' [] v → Rest s a v
  steps_back {s = s} {a = a} {v = v} x h = subst (λ (l : List ℕ). Rest s l v) (append-nil a) (steps_with x h)
