-- The characters of a string part, with the checks or without: the state after them, a function of their derivation, and the run that leads to it.
-- Assumes nothing.
use Prim.Native.Nat.{ℕ, suc}
use mathlib.Core.Path.{◌≡◌, refl, sym, ◌∙◌}
use mathlib.Core.Bool.{Bool, true}
use mathlib.Core.Logic.{◌⊎◌, inl, inr}
use mathlib.Core.List.{List, [], ◌∷◌, ◌++◌, append_assoc, append-nil}
use native.Mathlib.Omega.{arith}
use lib.Dec.{ltb, leb}
use borrow.Author.Tests.{eq-eqb, ne_eqb, lt-ltb, le-ltb}
use Rattle.rules.specs.Rfc3629.{In, encode}
use Rattle.rules.proofs.Characters.{Each, all_none, all_more}
use Rattle.meaning.specs.Letters.{letters}
use Rattle.grammar.specs.Characters.{Among, Digits, Hexadecimal}
use Rattle.grammar.specs.Strings.{Quote, mark, other, Chars, Escape, unescaped}
use Rattle.machine.specs.Scan.{takes}
use Rattle.machine.specs.Strings as S
use Rattle.machine.specs.Strings.{St, Ctx, Half, Bad, mk, give, bad_now, scan, begin, one, body, esc, done, whole, half}
use Rattle.machine.proofs.Runs.{adv, Steps, eats, steps_join}
use Rattle.machine.proofs.Strings.Raw.{Plain}
use Rattle.machine.proofs.Strings.Quotes.{between_other}
use Rattle.machine.proofs.Strings.Tests.{either, short_of_lem}
use Rattle.machine.proofs.Strings.Forward.{First, first_of_lem, encode_some, uni_steps, brace_step, brace_steps, back_step, plain_each}
use Rattle.machine.proofs.Strings.Forward.{chars_steps, one_step, no_slash, start_step, clear}

-- the characters of a part of one line
abbrev pub CharsOf : Bool → Quote → List ℕ → List ℕ → Type 0
CharsOf k q a u = Chars (Among unescaped) (Escape k) q a u

-- no good escape begins these bytes
abbrev pub NoEscape : List ℕ → Type 0
NoEscape b = (e c w : List ℕ) → b ≡ e ++ c → Escape true e w → ⊥

-- a begins with the escape of a low surrogate, c is behind it
pub record Low (a c : List ℕ) : Type 0 where
  pub digits : List ℕ
  pub number : ℕ
  pub is : a ≡ letters "\\u" ++ (digits ++ c)
  pub hexes : Hexadecimal 4 digits number
  pub low : In 0xDC00 0xDFFF number

-- ---- the state

-- after an escape whose backslash stands at this place
abbrev pub escape_ctx : {k : Bool} {e v : List ℕ} → Escape k e v → ℕ → Ctx → Ctx
escape_ctx (Escape.short {c = x} y) at c = give c (encode x)
escape_ctx (Escape.unit {n = n} x s) at c = S.unit c at n c.high
escape_ctx (Escape.pair {a = a} {high = h} {low = l} x i y j) at c = let d = S.unit c at h c.high in S.unit d (adv (suc (suc at)) a) l d.high
escape_ctx (Escape.braced {n = n} x s) at c = S.in_braces c at n

-- after characters the first of which stands at this place
abbrev pub chars_ctx : {k : Bool} {q : Quote} {a u : List ℕ} → CharsOf k q a u → ℕ → Ctx → Ctx
chars_ctx Chars.none p c = c
chars_ctx (Chars.plain {c = b} x y) p c = chars_ctx y (adv p b) (give c b)
chars_ctx (Chars.escaped {e = e} x y) p c = chars_ctx y (adv (suc p) e) (escape_ctx x p c)
chars_ctx {q = q} (Chars.other_quote y) p c = chars_ctx y (suc p) (give c (mark (other q) ∷ []))

-- ---- the quote stays

module _ (k : Ctx) (at w : ℕ) where
  abbrev Same : Ctx → Type 0
  Same c = c.quote ≡ k.quote

  alone_quote : Same (S.alone k at w)
  unfolding S.alone
  alone_quote = either Same (ltb w 0xD800) refl (either Same (ltb w 0xDC00) refl (either Same (ltb w 0xE000) refl refl))

  pub unit_quote : (h : Half) → Same (S.unit k at w h)
  unfolding S.unit
  unit_quote whole = alone_quote
  unit_quote (half f h) = either Same (ltb w 0xDC00) alone_quote (either Same (ltb w 0xE000) refl alone_quote)

  pub braces_quote : Same (S.in_braces k at w)
  unfolding S.in_braces
  braces_quote = either Same (ltb w 0xD800) refl (either Same (ltb w 0xE000) refl (either Same (leb w 0x10FFFF) refl refl))

escape_quote : {k : Bool} {e v : List ℕ} (x : Escape k e v) (at : ℕ) (c : Ctx) → (escape_ctx x at c).quote ≡ c.quote
escape_quote (Escape.short y) at c = refl
escape_quote (Escape.unit {n = n} x s) at c = unit_quote c at n c.high
escape_quote (Escape.pair {a = a} {high = h} {low = l} x i y j) at c =
    let d = S.unit c at h c.high in unit_quote d (adv (suc (suc at)) a) l d.high ∙ unit_quote c at h c.high
escape_quote (Escape.braced {n = n} x s) at c = braces_quote c at n

chars_quote : {k : Bool} {q : Quote} {a u : List ℕ} (x : CharsOf k q a u) (p : ℕ) (c : Ctx) → (chars_ctx x p c).quote ≡ c.quote
chars_quote Chars.none p c = refl
chars_quote (Chars.plain {c = b} x y) p c = chars_quote y (adv p b) (give c b)
chars_quote (Chars.escaped {e = e} x y) p c = chars_quote y (adv (suc p) e) (escape_ctx x p c) ∙ escape_quote x p c
chars_quote {q = q} (Chars.other_quote y) p c = chars_quote y (suc p) (give c (mark (other q) ∷ []))

-- ---- the machine comes to it

escape_run : {k : Bool} {e v : List ℕ} (x : Escape k e v) (at : ℕ) (c : Ctx) → Steps scan (suc at) (esc c at) e (body (escape_ctx x at c))
unfolding scan S.on_short
escape_run (Escape.short {b = b} {c = x} y) at c =
    let u = short_of_lem y in eats scan Steps.stay (rw (ne_eqb b 0x75 u.1.no_u, u.0, lt-ltb x 256 (omega arith)))
escape_run (Escape.unit x s) at c = eats scan (uni_steps x (suc (suc at)) c at _ refl) refl
escape_run (Escape.pair {a = a} {high = h} x i y j) at c =
    let q = adv (suc (suc at)) a in
    let d = S.unit c at h c.high in
    let low = eats scan (eats scan (uni_steps y (suc (suc q)) d q _ refl) refl) (back_step q d) in
    eats scan (steps_join scan (uni_steps x (suc (suc at)) c at d refl) low) refl
escape_run (Escape.braced (Digits.next h x) s) at c =
    let p = suc (suc (suc at)) in
    eats scan (eats scan (eats scan (steps_join scan (brace_steps x (suc p) c at) (eats scan Steps.stay refl)) (brace_step h p c at 0)) refl) refl

plain_byte_lem : {q b : ℕ} → Plain q b → (p : ℕ) (c : Ctx) → c.quote ≡ q → scan p (body c) b ≡ takes (body (give c (b ∷ [])))
unfolding scan S.on_body S.plain_byte
plain_byte_lem {q} {b} x p c e = rw (e, ne_eqb b 0x5C x.no_back, ne_eqb b q x.no_end, le-ltb b 0x20 x.low, lt-ltb b 256 (omega arith))

-- plain bytes where no high surrogate waits
plains_run : {q : ℕ} {a : List ℕ} → Each (Plain q) a → (p j : ℕ) (z : Bad) (acc : List ℕ) → j ≡ q
    → Steps scan p (body (mk j z whole acc)) a (body (mk j z whole (acc ++ a)))
plains_run all_none p j z acc e = rw append-nil Steps.stay
plains_run (all_more {b = b} x y) p j z acc e =
    eats scan (rw append_assoc at (plains_run y (suc p) j z (acc ++ (b ∷ [])) e)) (plain_byte_lem x p (mk j z whole acc) e)

-- the bytes of a plain character, from any state
plain_run : {q : ℕ} {a : List ℕ} → First (Plain q) a → (p : ℕ) (c : Ctx) → c.quote ≡ q → Steps scan p (body c) a (body (give c a))
plain_run f p c e =
    let more = plains_run f.all (suc p) c.quote (bad_now c) (c.acc ++ (f.byte ∷ [])) e in
    rw f.is (eats scan (rw append_assoc at more) (plain_byte_lem f.has p c e))

chars_run : {k : Bool} {q : Quote} {a u : List ℕ} (x : CharsOf k q a u) (p : ℕ) (c : Ctx) → c.quote ≡ mark q
    → Steps scan p (body c) a (body (chars_ctx x p c))
chars_run Chars.none p c e = Steps.stay
chars_run {q = q} (Chars.plain (Among.character {n = n} s o) y) p c e =
    steps_join scan (plain_run (first_of_lem (plain_each q n s o) (encode_some n s)) p c e) (chars_run y (adv p (encode n)) (give c (encode n)) e)
chars_run (Chars.escaped {e = b} x y) p c e =
    eats scan (steps_join scan (escape_run x p c) (chars_run y (adv (suc p) b) (escape_ctx x p c) (escape_quote x p c ∙ e))) (back_step p c)
chars_run {q = q} (Chars.other_quote y) p c e =
    eats scan (chars_run y (suc p) (give c (mark (other q) ∷ [])) e) (plain_byte_lem (between_other q 0xFF (omega arith)) p c e)

-- ---- the part

-- the first byte is there, and is another
abbrev pub NotFirst : ℕ → List ℕ → Type 0
NotFirst q [] = ⊥
NotFirst q (b ∷ l) = b ≡ q → ⊥

-- no character begins with the quote
pub first_char : {k : Bool} {q : Quote} {a u : List ℕ} → CharsOf k q a u → (a ≡ []) ⊎ ((b : List ℕ) → NotFirst (mark q) (a ++ b))
first_char Chars.none = inl refl
first_char {q = q} (Chars.plain (Among.character {n = n} s o) y) =
    inr (λ b. let f = first_of_lem (plain_each q n s o) (encode_some n s) in rw f.is f.has.no_end)
first_char {q = q} (Chars.escaped x y) = inr (λ b. no_slash q)
first_char {q = q} (Chars.other_quote y) = inr (λ b. (between_other q 0xFF (omega arith)).no_end)

from_one : {q p : ℕ} {t : St} (l : List ℕ) → NotFirst q l → Steps scan p (body (clear q [])) l t → Steps scan p (one q) l t
from_one [] h x = absurd h
from_one {p = p} (b ∷ l) h (Steps.eat x e) = eats scan x (one_step h p ∙ e)

shut_step : (q : Quote) (p : ℕ) (c : Ctx) → c.quote ≡ mark q → scan p (body c) (mark q) ≡ takes (done c)
unfolding scan S.on_body
shut_step q p c e = rw (e, ne_eqb (mark q) 0x5C (λ f. no_slash q (sym f)), eq-eqb (mark q) (mark q) refl)

-- good characters, then any: where the part closes
pub part_run : {k : Bool} {q : Quote} {a u x v : List ℕ} → CharsOf true q a u → (y : CharsOf k q x v) → NotFirst (mark q) (a ++ (x ++ (mark q ∷ [])))
    → (p : ℕ) → Steps scan p begin (mark q ∷ (a ++ (x ++ (mark q ∷ [])))) (done (chars_ctx y (adv (suc p) a) (clear (mark q) u)))
part_run {q = q} {a} {u} {x} w y n p =
    let i = adv (suc p) a in
    let c = clear (mark q) u in
    let shut = eats scan Steps.stay (shut_step q (adv i x) (chars_ctx y i c) (chars_quote y i c)) in
    eats scan (from_one (a ++ (x ++ (mark q ∷ []))) n (steps_join scan (chars_steps w (suc p) []) (steps_join scan (chars_run y i c refl) shut)))
    (start_step q p)
