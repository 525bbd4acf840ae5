-- The machine over a text, a byte at a time. Assumes nothing.
use mathlib.Core.Path.{◌≡◌, sym, ap, ap₂, ◌∙◌}
use mathlib.Core.List.{List, [], ◌++◌}
use Prim.Native.Nat.{ℕ, suc, ◌+◌, ◌≤◌, ◌<◌}
use native.Mathlib.Omega.{arith}
use native.Mathlib.Numerals.{add-one}
use native.Mathlib.Decide.{dec_lt}
use lib.ListN.{length, drop, get_or, drop_of_length-le}
use lib.Seq.{drop-cons}
use Rattle.meaning.specs.declared.Refusal.{Refusal}
use Rattle.meaning.specs.Between.Events.{Event}
use Rattle.machine.specs.Machine.{Conf, fail, step, finish, Verdict, No}
use Rattle.machine.specs.Heard.{Heard, hears, Told, after, tell, heard_of}
use Rattle.machine.proofs.Heard.{after_join, fail_told, heard_join}
use Rattle.reader.specs.Between.Scanning.{Goes, Hears, Refuses, Faults}

-- what comes after comes to this, a refusal say, whatever is heard before
pub then_refused : {x y : Told} {v : Verdict} → x ≡ y → y.verdict ≡ v → x.verdict ≡ v
then_refused e f = ap (λ (t : Told). t.verdict) e ∙ f

-- a fault is a refusal
pub faulted : {x : Told} {v : Verdict} → x ≡ record { verdict = v; heard = [] } → x.verdict ≡ v
faulted e = ap (λ (t : Told). t.verdict) e

-- ---- what a byte does

-- the state after it, and what is heard
abbrev pub move : ℕ → Conf → ℕ → Conf × List Heard
move p c b = (step p c b, hears p c b)

-- a move, and the rest of the text
abbrev moved : List ℕ → ℕ → Conf × List Heard → Told
moved text p x = after x.1 (tell (suc p) x.0 (drop (suc p) text))

pub both : {a c : Conf} {b d : List Heard} → a ≡ c → b ≡ d → ◌≡◌ {A = Conf × List Heard} (a, b) (c, d)
both e f = ap₂ (λ (x : Conf) (y : List Heard). (x, y)) e f

pub onto : (c : Conf) (text : List ℕ) (p : ℕ) → p < length text → tell p c (drop p text) ≡ moved text p (move p c (get_or text p 0))
unfolding tell
onto c text p h = rw (drop-cons text p 0)

pub at_end : (c : Conf) (text : List ℕ) (p : ℕ) → length text ≤ p → tell p c (drop p text) ≡ record { verdict = finish p c; heard = [] }
unfolding tell
at_end c text p h = rw (drop_of_length-le text {i = p} h)

module _ (c d : Conf) (text : List ℕ) (p : ℕ) where
  -- one byte
  pub go_hearing : (hs : List Heard) → p < length text → move p c (get_or text p 0) ≡ (d, hs) → Hears text c p hs d (p + 1)
  go_hearing hs h e = onto c text p h ∙ ap (moved text p) e ∙ ap (λ (j : ℕ). after hs (tell j d (drop j text))) (sym (add-one p))

  pub go : p < length text → move p c (get_or text p 0) ≡ (d, []) → Goes text c p d (p + 1)
  go = go_hearing []

  -- two states that do the same with the byte, or at the end
  alike_on : p < length text → move p c (get_or text p 0) ≡ move p d (get_or text p 0) → Goes text c p d p
  alike_on h e = onto c text p h ∙ ap (moved text p) e ∙ sym (onto d text p h)

  pub alike_end : length text ≤ p → finish p c ≡ finish p d → Goes text c p d p
  alike_end h e = at_end c text p h ∙ ap (λ (v : Verdict). record { verdict = v; heard = [] }) e ∙ sym (at_end d text p h)

  pub alike : (p < length text → move p c (get_or text p 0) ≡ move p d (get_or text p 0)) → (length text ≤ p → finish p c ≡ finish p d) → Goes text c p d p
  alike f g = by (dec_lt p (length text))
    where
      by : Dec (p < length text) → Goes text c p d p
      by (Dec.yes h) = alike_on h (f h)
      by (Dec.no h) = alike_end (omega arith) (g (omega arith))

  -- and hs is heard, where the second says nothing
  pub alike_hearing : (hs : List Heard) → p < length text → move p c (get_or text p 0) ≡ (step p d (get_or text p 0), hs) → hears p d (get_or text p 0) ≡ []
      → Hears text c p hs d p
  alike_hearing hs h e n =
      onto c text p h
      ∙ ap (moved text p) e
      ∙ ap (λ (x : List Heard). after hs (after x (tell (suc p) (step p d (get_or text p 0)) (drop (suc p) text)))) (sym n)
      ∙ ap (after hs) (sym (onto d text p h))

  -- whatever is heard, they come to the same
  pub alike_comes : p < length text → step p c (get_or text p 0) ≡ step p d (get_or text p 0) → (tell p c (drop p text)).verdict
      ≡ (tell p d (drop p text)).verdict
  alike_comes h e =
      then_refused (onto c text p h)
      (ap (λ (x : Conf). (tell (suc p) x (drop (suc p) text)).verdict) e ∙ sym (ap (λ (x : Told). x.verdict) (onto d text p h)))

module _ (c : Conf) (text : List ℕ) (p : ℕ) (why : Refusal) where
  -- where the byte says nothing
  pub stop_quietly : p < length text → move p c (get_or text p 0) ≡ (fail why, []) → Faults text c p why
  stop_quietly h e = onto c text p h ∙ ap (moved text p) e ∙ fail_told (drop (suc p) text) (suc p) why

  pub halt_quietly : length text ≤ p → finish p c ≡ No why → Faults text c p why
  halt_quietly h e = at_end c text p h ∙ ap (λ (v : Verdict). record { verdict = v; heard = [] }) e

  pub stop : p < length text → step p c (get_or text p 0) ≡ fail why → Refuses text c p why
  stop h e =
      then_refused (onto c text p h)
      (ap (λ (x : Conf). (tell (suc p) x (drop (suc p) text)).verdict) e ∙ ap (λ (x : Told). x.verdict) (fail_told (drop (suc p) text) (suc p) why))

  pub halt : length text ≤ p → finish p c ≡ No why → Refuses text c p why
  halt h e = then_refused (at_end c text p h) e

-- ---- one way after another

-- then these are heard, too
pub then_tells : (es fs : List Event) {x y : Told} (z : Told) → x ≡ after (heard_of es) y → y ≡ after (heard_of fs) z → x ≡ after (heard_of (es ++ fs)) z
then_tells es fs z v w =
    v
    ∙ ap (after (heard_of es)) w
    ∙ after_join (heard_of es) (heard_of fs) z
    ∙ ap (λ (hs : List Heard). after hs z) (sym (heard_join es fs))

-- then nothing is heard
pub then_goes : (es : List Event) {x y z : Told} → x ≡ after (heard_of es) y → y ≡ z → x ≡ after (heard_of es) z
then_goes es v w = v ∙ ap (after (heard_of es)) w
