-- Pieces laid one after the other, parts that are lent and come back, and a text on its way. Assumes nothing.
use mathlib.Core.Path.{◌≡◌, refl, sym, ap, ap₂, ◌∙◌, subst}
use mathlib.Core.List.{List, [], ◌∷◌, ◌++◌, append_assoc, append-nil}
use Prim.Native.Nat.{ℕ, suc, ◌+◌, ◌-◌, ◌≤◌, ◌<◌}
use native.Mathlib.Numerals.{add-one}
use native.Mathlib.Omega.{arith}
use lib.ListN.{length, take, drop, set, get_or, length-append, length-take, length-drop, take-append-drop, drop_of_length-le}
use lib.Seq.{set_at, take-append-le, take-take, take_at, drop_at, drop-drop, drop-cons, take-suc, take_all, set_split}
use Rattle.writer.specs.Between.Laid.{laid, laid_at, Put, PutAt}

pub put_as : {t u o out : List ℕ} {r : ℕ} → t ≡ u → Put t o out r → Put u o out r
put_as {t} {u} {o} {out} {r} e p = subst (λ (x : List ℕ). Put x o out r) e p

pub put_at_as : {t u o out : List ℕ} {at r : ℕ} → t ≡ u → PutAt t at o out r → PutAt u at o out r
put_at_as {t} {u} {o} {out} {at} {r} e p = subst (λ (x : List ℕ). PutAt x at o out r) e p

-- ---- one piece after the other

laid_next : (t u o : List ℕ) (at : ℕ) → at ≤ length o → laid_at u (at + length t) (laid_at t at o) ≡ laid_at (t ++ u) at o
laid_next t u o at h =
    let a = take at o in
    let z : length a ≡ at = length-take at o ∙ omega arith in
    let w = drop (at + length t) o in
    let k : at + length t + length u ≡ at + length (t ++ u) = omega (arith, length-append t u) in
    let n : length (a ++ t) ≡ at + length t = length-append a t ∙ ap (λ (k : ℕ). k + length t) z in
    let e : laid_at t at o ≡ (a ++ t) ++ w = sym (append_assoc a t w) in
    ap₂ (λ (x y : List ℕ). x ++ (u ++ y)) (ap (take (at + length t)) e ∙ take_at (a ++ t) w (at + length t) n)
    (sym (drop-drop (length u) (at + length t) (laid_at t at o)) ∙ ap (drop (length u)) (ap (drop (at + length t)) e ∙ drop_at (a ++ t) w (at + length t) n)
    ∙ drop-drop (length u) (at + length t) o)
    ∙ append_assoc a t (u ++ drop (at + length t + length u) o)
    ∙ ap (λ (x : List ℕ). a ++ x) (sym (append_assoc t u (drop (at + length t + length u) o)))
    ∙ ap (λ (k : ℕ). a ++ ((t ++ u) ++ drop k o)) k

pub put_next : {t u o mid out : List ℕ} {at r s : ℕ} → at ≤ length o → PutAt t at o mid r → PutAt u r mid out s → PutAt (t ++ u) at o out s
put_next {t} {u} {o} {mid} {out} {at} {r} {s} h p q =
    record {
      next = q.next ∙ omega (arith, p.next, length-append t u);
      text = q.text ∙ ap₂ (λ (x : ℕ) (y : List ℕ). laid_at u x y) p.next p.text ∙ laid_next t u o at h;
    }

-- ---- one byte

pub put_byte : (b at : ℕ) (o : List ℕ) → at < length o → PutAt (b ∷ []) at o (set o at b) (at + 1)
put_byte b at o h =
    record { next = refl; text = set_split o at b h ∙ ap (λ (k : ℕ). take at o ++ (b ∷ drop k o)) (sym (add-one at)) }

-- nothing written
pub put_none : (at : ℕ) (o : List ℕ) → PutAt [] at o o at
put_none at o =
    let z : at + 0 ≡ at = omega arith in
    record { next = sym z; text = sym (ap (λ (k : ℕ). take at o ++ drop k o) z ∙ take-append-drop at o) }

-- one byte before those that stand
pub laid_before : (b at : ℕ) (t o : List ℕ) → at < length o → set (laid_at t (at + 1) o) at b ≡ laid_at (b ∷ t) at o
laid_before b at t o h =
    let z : length (take at o) ≡ at = length-take at o ∙ omega arith in
    let k : at + 1 + length t ≡ at + suc (length t) = omega arith in
    let w = t ++ drop (at + 1 + length t) o in
    let e : take (at + 1) o ≡ take at o ++ (get_or o at 0 ∷ []) = ap (λ (x : ℕ). take x o) (add-one at) ∙ take-suc o at 0 h in
    ap (λ (x : List ℕ). set (x ++ w) at b) e
    ∙ ap (λ (x : List ℕ). set x at b) (append_assoc (take at o) (get_or o at 0 ∷ []) w)
    ∙ set_at (take at o) (get_or o at 0) w b at z
    ∙ ap (λ (x : ℕ). take at o ++ (b ∷ (t ++ drop x o))) k

-- a piece before those that stand
pub laid_under : (t u o : List ℕ) (at : ℕ) → at + length t ≤ length o → laid_at t at (laid_at u (at + length t) o) ≡ laid_at (t ++ u) at o
laid_under t u o at h =
    let i = at + length t in
    let a = take i o in
    let w = u ++ drop (i + length u) o in
    let z : length a ≡ i = length-take i o ∙ omega arith in
    let k : i + length u ≡ at + length (t ++ u) = omega (arith, length-append t u) in
    ap₂ (λ (x y : List ℕ). x ++ (t ++ y)) (take-append-le at a w (omega arith) ∙ take-take at i o (omega arith)) (drop_at a w i z)
    ∙ ap (λ (x : List ℕ). take at o ++ x) (sym (append_assoc t u (drop (i + length u) o)))
    ∙ ap (λ (x : ℕ). take at o ++ ((t ++ u) ++ drop x o)) k

-- ---- a part that is lent, from the place `at` on, as the borrow checker says it, and the whole where it has come back

abbrev pub tail : ℕ → List ℕ → List ℕ
tail at out = take (length out - at) (drop at out)

pub tail_is : (at : ℕ) (out : List ℕ) → tail at out ≡ drop at out
tail_is at out = take_all (length out - at) (drop at out) (simp length-drop (omega arith))

abbrev pub back : ℕ → List ℕ → List ℕ → List ℕ
back at out part = take at out ++ (part ++ drop (length out - at) (drop at out))

pub put_tail : {t o part : List ℕ} {at r : ℕ} → Put t (tail at o) part r → PutAt t at o (back at o part) (at + r)
put_tail {t} {o} {part} {at} {r} p =
    let short : length (drop at o) ≤ length o - at = simp length-drop (omega arith) in
    record {
      next = ap (λ (k : ℕ). at + k) p.size;
      text =
          ap (λ (x : List ℕ). take at o ++ (part ++ x)) (drop_of_length-le (drop at o) short)
          ∙ ap (λ (x : List ℕ). take at o ++ x) (append-nil part ∙ p.text ∙ ap (laid t) (tail_is at o))
          ∙ ap (λ (x : List ℕ). take at o ++ (t ++ x)) (drop-drop (length t) at o);
    }

pub tail_length : (at : ℕ) (o : List ℕ) → length (tail at o) ≡ length o - at
tail_length at o = ap length (tail_is at o) ∙ length-drop at o

-- written from the start
pub put_whole : {t o out : List ℕ} {r : ℕ} → PutAt t 0 o out r → Put t o out r
put_whole {t} {o} {out} {r} p =
    let z : 0 + length t ≡ length t = omega arith in
    record { size = p.next ∙ z; text = p.text ∙ ap (λ (k : ℕ). t ++ drop k o) z }

-- ---- bytes in their order

pub drop_more : (s : List ℕ) (i : ℕ) → i < length s → drop i s ≡ get_or s i 0 ∷ drop (i + 1) s
drop_more s i h = drop-cons s i 0 h ∙ ap (λ (j : ℕ). get_or s i 0 ∷ drop j s) (sym (add-one i))

-- the length stays
pub put_length : {t o out : List ℕ} {at r : ℕ} → at + length t ≤ length o → PutAt t at o out r → length out ≡ length o
put_length {t} {o} {out} {at} {r} h p =
    let z : length (take at o) ≡ at = length-take at o ∙ omega arith in
    ap length p.text
    ∙ omega (arith, length-append (take at o) (t ++ drop (at + length t) o), length-append t (drop (at + length t) o), length-drop (at + length t) o)

-- ---- a text that is being written over o from a place on: `out` is what stands there now, `at` is where the `rest` goes

pub record Writing (full rest : List ℕ) (from : ℕ) (o out : List ℕ) (at : ℕ) : Type 0 where
  pub done : List ℕ
  pub whole : full ≡ done ++ rest
  pub put : PutAt done from o out at
  pub fits : from + length full ≤ length o

pub begin : (full : List ℕ) (from : ℕ) (o : List ℕ) → from + length full ≤ length o → Writing full full from o o from
begin full from o h = record { done = []; whole = refl; put = put_none from o; fits = h }

pub writing_as : {full rest rest' o out : List ℕ} {from at : ℕ} → rest ≡ rest' → Writing full rest from o out at → Writing full rest' from o out at
writing_as {full} {rest} {rest'} {o} {out} {from} {at} e w = subst (λ (r : List ℕ). Writing full r from o out at) e w

pub writing_count : {full rest o out : List ℕ} {from at : ℕ} → Writing full rest from o out at → at + length rest ≡ from + length full
writing_count {full} {rest} {o} {out} {from} {at} w = omega (arith, length-append w.done rest, ap length w.whole, w.put.next)

pub writing_length : {full rest o out : List ℕ} {from at : ℕ} → Writing full rest from o out at → length out ≡ length o
writing_length {full} {rest} {o} {out} {from} {at} w =
    put_length (omega (arith, length-append w.done rest, ap length w.whole, w.fits)) w.put

-- the next piece
pub writing_put : (u : List ℕ) {full rest o out out' : List ℕ} {from at r : ℕ} → Writing full (u ++ rest) from o out at → PutAt u at out out' r
    → Writing full rest from o out' r
writing_put u {full} {rest} {o} {out} {out'} {from} {at} {r} w p =
    record {
      done = w.done ++ u;
      whole = w.whole ∙ sym (append_assoc w.done u rest);
      put = put_next (omega (arith, w.fits)) w.put p;
      fits = w.fits;
    }

-- there is room for it
pub writing_room : (u rest : List ℕ) {full o out : List ℕ} {from at : ℕ} → Writing full (u ++ rest) from o out at → at + length u ≤ length out
writing_room u rest w = omega (arith, writing_count w, writing_length w, w.fits, length-append u rest)

-- nothing is left to write
pub finish : {full o out : List ℕ} {from at : ℕ} → Writing full [] from o out at → PutAt full from o out at
finish {full} {o} {out} {from} {at} w = put_at_as (sym (w.whole ∙ append-nil w.done)) w.put
