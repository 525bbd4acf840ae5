-- The whole line that the program prints: made of its parts, and one for each input. Assumes nothing.
use mathlib.Core.Path.{◌≡◌, refl, sym, ap, ap₂, ◌∙◌, subst}
use mathlib.Core.List.{List, ◌++◌, append_assoc}
use Prim.Native.Nat.{ℕ, ◌+◌, ◌≤◌, ◌<◌, ◌^◌}
use native.Mathlib.Omega.{arith}
use native.Mathlib.Decide.{dec_le}
use native.Mathlib.Nat.{lt_of_not-le}
use lib.ListN.{length, take, drop, length-append, length-take, take-append-drop}
use lib.Seq.{take_all, drop-append-le}
use Rattle.rules.proofs.Outcomes.{done_apart}
use Rattle.meaning.specs.declared.Refusal.{Refusal}
use Rattle.meaning.specs.Bytes.{laid}
use Rattle.meaning.specs.Letters.{letters}
use Rattle.meaning.specs.Meaning.{Meaning}
use Rattle.meaning.specs.Paper.{number_of, place_of}
use Rattle.meaning.specs.Canonical.{decimal, canonical}
use Rattle.meaning.proofs.Digits.{decimal_length}
use Rattle.reader.specs.Answers.{tape_bytes}
use Rattle.machine.proofs.Accepted.{unambiguous, one_text_refusal, not_refused}
use Rattle.std.specs.declared.result.Result.{Result}
use Rattle.std.specs.declared.result.Result.TheVariants.{Ok, Err}
use Rattle.writer.specs.Paper.{write_said}
use Rattle.writer.specs.Between.Laid.{Put, PutAt}
use Rattle.writer.proofs.LaidLaws.{put_as, put_at_as, put_next, put_whole}
use Rattle.jaxn.specs.Line.{room, refused_line, Line, longer, no_text, tape_short, output_short, printed, Tells}
use Rattle.jaxn.specs.Between.Steps.{Rewrites, refusing, printing}

-- ---- the line of a refusal, piece by piece

-- a number of 64 bits has at most twenty digits
pub digits_few : (n : ℕ) → n < 2 ^ 64 → length (decimal n) ≤ 20
digits_few n h = decimal_length 19 n (omega arith)

pub five_pieces : {a b c d e : List ℕ} {o o₁ o₂ o₃ o₄ out : List ℕ} {i j k l r : ℕ} → PutAt a 0 o o₁ i → PutAt b i o₁ o₂ j → PutAt c j o₂ o₃ k
    → PutAt d k o₃ o₄ l → PutAt e l o₄ out r → Put (a ++ (b ++ (c ++ (d ++ e)))) o out r
five_pieces {a} {b} {c} {d} {e} {o} p q x y z =
    let h : 0 ≤ length o = omega arith in
    put_whole
    (put_at_as (append_assoc (a ++ b ++ c) d e ∙ append_assoc (a ++ b) c (d ++ e) ∙ append_assoc a b (c ++ (d ++ e)))
    (put_next h (put_next h (put_next h (put_next h p q) x) y) z))

-- ---- the whole line

tells : {input t out out' : List ℕ} {r : ℕ} → Line input t → Put t out out' r → Tells input out r out'
tells {t = t} x p = record { text = t; allowed = x; size = p.size; left = p.text }

-- what is told lies within the output
pub tells_within : {input out out' : List ℕ} {n : ℕ} → Tells input out n out' → n ≤ length out'
tells_within {out = out} h = omega (arith, h.size, ap length h.left, length-append h.text (drop (length h.text) out))

pub tells_longer : {input out out' : List ℕ} {r : ℕ} → Put (refused_line 1 room) out out' r → room < length input → Tells input out r out'
tells_longer p h = tells (longer h) p

refusal_of_lem : {t o part : List ℕ} {w : Result ℕ Refusal} {why : Refusal} → Rewrites t o w part → w ≡ Err why
    → (part ≡ o) × Line t (refused_line (number_of why) (place_of why))
refusal_of_lem {t} {why = why} (refusing {why = v} x) e =
    let z : v ≡ why = cc in
    (refl, subst (λ (k : Refusal). Line t (refused_line (number_of k) (place_of k))) z x)
refusal_of_lem (printing u x f) e = absurd (done_apart (ap write_said e))

-- a refusal leaves the output as it was, and its line is laid over it
pub tells_refusal : {input out part out' : List ℕ} {w : Result ℕ Refusal} {why : Refusal} {n p r : ℕ} → Rewrites input (take room out) w part → w ≡ Err why
    → n ≡ number_of why → p ≡ place_of why → Put (refused_line n p) (part ++ drop room out) out' r → Tells input out r out'
tells_refusal {out = out} {out' = out'} {why = why} {r = r} q e i j p =
    let s = refusal_of_lem q e in
    let whole = ap (λ (x : List ℕ). x ++ drop room out) s.0 ∙ take-append-drop room out in
    tells s.1 (subst (λ (x : List ℕ). Put (refused_line (number_of why) (place_of why)) x out' r) whole (put_as (ap₂ refused_line i j) p))

record TextOf (input o part : List ℕ) (n : ℕ) : Type 0 where
  pub text : List ℕ
  pub line : Line input (text ++ letters "\n")
  pub fits : length text ≤ length o
  pub size : n ≡ length text
  pub left : part ≡ laid text o

text_of : {t o part : List ℕ} {w : Result ℕ Refusal} {n : ℕ} → Rewrites t o w part → w ≡ Ok n → TextOf t o part n
text_of (refusing x) e = absurd (done_apart (sym (ap write_said e)))
text_of {n = n} (printing u x f) e = let z : n ≡ length u = cc in record { text = u; line = x; fits = f; size = z; left = refl }

-- a text in the first part of an output stands in the whole
whole_laid : (t out : List ℕ) → length t ≤ length (take room out) → laid t (take room out) ++ drop room out ≡ laid t out
whole_laid t out h =
    append_assoc t (drop (length t) (take room out)) (drop room out)
    ∙ ap (λ (x : List ℕ). t ++ x) (sym (drop-append-le (length t) (take room out) (drop room out) h) ∙ ap (drop (length t)) (take-append-drop room out))

-- a text lies within the part that was lent, so that a byte is left for the line feed
pub text_within : (out : List ℕ) {t part : List ℕ} {w : Result ℕ Refusal} {n : ℕ} → Rewrites t (take room out) w part → w ≡ Ok n → n ≤ room
text_within out q e = let s = text_of q e in omega (arith, s.fits, s.size, length-take room out)

pub tells_text : {input out part out' : List ℕ} {w : Result ℕ Refusal} {n r : ℕ} → Rewrites input (take room out) w part → w ≡ Ok n
    → PutAt (letters "\n") n (part ++ drop room out) out' r → Tells input out r out'
tells_text {out = out} {part} {n = n} q e p =
    let s = text_of q e in
    let t = s.text in
    let z : 0 + length t ≡ length t = omega arith in
    let here = ap (λ (x : List ℕ). x ++ drop room out) s.left ∙ whole_laid t out s.fits in
    let first : PutAt t 0 out (part ++ drop room out) n = record { next = s.size ∙ sym z; text = here ∙ ap (λ (k : ℕ). t ++ drop k out) (sym z) } in
    let h : 0 ≤ length out = omega arith in
    tells s.line (put_whole (put_next h first p))

-- ---- one outcome

module _ {input : List ℕ} where
  pub one_outcome : {s t : List ℕ} → Line input s → Line input t → s ≡ t
  one_outcome (longer h) (longer k) = refl
  one_outcome (longer h) (no_text k y) = absurd (omega arith)
  one_outcome (longer h) (tape_short k y g) = absurd (omega arith)
  one_outcome (longer h) (output_short k y g j) = absurd (omega arith)
  one_outcome (longer h) (printed k y g j) = absurd (omega arith)
  one_outcome (no_text h x) (longer k) = absurd (omega arith)
  one_outcome (no_text h x) (no_text k y) = ap (λ (w : Refusal). refused_line (number_of w) (place_of w)) (one_text_refusal x y)
  one_outcome (no_text h x) (tape_short k y g) = absurd (not_refused y x)
  one_outcome (no_text h x) (output_short k y g j) = absurd (not_refused y x)
  one_outcome (no_text h x) (printed k y g j) = absurd (not_refused y x)
  one_outcome (tape_short h x f) (longer k) = absurd (omega arith)
  one_outcome (tape_short h x f) (no_text k y) = absurd (not_refused x y)
  one_outcome (tape_short h x f) (tape_short k y g) = ap (λ (m : Meaning). refused_line 8 (tape_bytes m)) (unambiguous x y)
  one_outcome (tape_short h x f) (output_short k y g j) = absurd (omega (arith, ap tape_bytes (unambiguous x y)))
  one_outcome (tape_short h x f) (printed k y g j) = absurd (omega (arith, ap tape_bytes (unambiguous x y)))
  one_outcome (output_short h x f i) (longer k) = absurd (omega arith)
  one_outcome (output_short h x f i) (no_text k y) = absurd (not_refused x y)
  one_outcome (output_short h x f i) (tape_short k y g) = absurd (omega (arith, ap tape_bytes (unambiguous x y)))
  one_outcome (output_short h x f i) (output_short k y g j) = ap (λ (m : Meaning). refused_line 12 (length (canonical m))) (unambiguous x y)
  one_outcome (output_short h x f i) (printed k y g j) = absurd (omega (arith, ap (λ (m : Meaning). length (canonical m)) (unambiguous x y)))
  one_outcome (printed h x f i) (longer k) = absurd (omega arith)
  one_outcome (printed h x f i) (no_text k y) = absurd (not_refused x y)
  one_outcome (printed h x f i) (tape_short k y g) = absurd (omega (arith, ap tape_bytes (unambiguous x y)))
  one_outcome (printed h x f i) (output_short k y g j) = absurd (omega (arith, ap (λ (m : Meaning). length (canonical m)) (unambiguous x y)))
  one_outcome (printed h x f i) (printed k y g j) = ap (λ (m : Meaning). canonical m ++ letters "\n") (unambiguous x y)

-- ---- the input's first 65,537 bytes tell its line

cut : {s t : List ℕ} → room < length s → Line (take 65537 s) t → Line s t
cut h (longer k) = longer h
cut {s} h (no_text k y) = absurd (omega (arith, length-take 65537 s))
cut {s} h (tape_short k y g) = absurd (omega (arith, length-take 65537 s))
cut {s} h (output_short k y g j) = absurd (omega (arith, length-take 65537 s))
cut {s} h (printed k y g j) = absurd (omega (arith, length-take 65537 s))

pub first_bytes : (s t : List ℕ) → Line (take 65537 s) t → Line s t
first_bytes s t x =
    elim (dec_le (length s) room) [
      | yes h ↦ subst (λ (i : List ℕ). Line i t) (take_all 65537 s (omega arith)) x
      | no h ↦ cut (lt_of_not-le h) x
    ]
