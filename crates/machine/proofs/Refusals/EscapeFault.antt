-- 4, from the machine to the grammar: a string part that breaks but with 3 has closed, and is good up to a first bad escape.
-- Over the characters of the bare grammar (`viewed`) all are good, or one is the first bad escape. Assumes nothing.
use Prim.Native.Nat.{ℕ, suc, ◌≤◌, ◌<◌}
use mathlib.Core.Path.{◌≡◌, refl, sym, ap, ◌∙◌, subst}
use mathlib.Core.Bool.{true, false}
use mathlib.Core.Logic.{◌⊎◌, inl, inr}
use mathlib.Core.List.{List, [], ◌∷◌, ◌++◌, append_assoc}
use native.Mathlib.Omega.{arith}
use native.Mathlib.Decide.{dec_lt, dec_le}
use lib.ListN.{length}
use Rattle.rules.specs.Rfc3629.{In, Scalar, encode, Octets}
use Rattle.rules.proofs.Characters.{same_head, same_tail}
use Rattle.meaning.specs.declared.Refusal.{Refusal}
use Rattle.meaning.specs.Letters.{letters, ch}
use Rattle.grammar.specs.Characters.{Among, Hexdig, Digits, Hexadecimal}
use Rattle.grammar.specs.Comments.{Ws}
use Rattle.grammar.specs.Strings.{Quote, mark, other, Chars, Quoted, Escape, StringPart, Concat}
use Rattle.grammar.specs.Refused.{Spot, part, Left, ItemFault}
use Rattle.machine.specs.Scan.{breaks}
use Rattle.machine.specs.Machine
use Rattle.machine.specs.Machine.{Use, Frame}
use Rattle.machine.specs.Strings as S
use Rattle.machine.specs.Strings.{St, Ctx, Bad, bad_now, scan, begin, done, spoilt, hex_of}
use Rattle.machine.proofs.Runs.{EndsItem, PartEnds, Steps, value_goes, goes_end, end_out_lem, steps_back}
use Rattle.machine.proofs.Strings.Quotes.{between_other}
use Rattle.machine.proofs.Strings.Tests.{hex_of_lem, hex_ascii, short_of_lem}
use Rattle.machine.proofs.Strings.Back.{four_small}
use Rattle.machine.proofs.Strings.Forward.{part_goes, first_of_lem, encode_some, plain_each}
use Rattle.machine.proofs.Refusals.Reason.{Faulty, Reason}
use Rattle.machine.proofs.Refusals.Items.{Stops}
use Rattle.machine.proofs.Refusals.Chars.{CharsOf, NoEscape, Low}
use Rattle.machine.proofs.Refusals.Parts.{PartBare, bare_is, raw_whole, Kept, kept, steps_sane}
use Rattle.machine.proofs.Refusals.Bases.{start_left}
use Rattle.machine.proofs.Refusals.Confs.{PartStart, ItemAt}

-- ---- digits that begin one list

same_digit : {b c x y : ℕ} → Hexdig b x → Hexdig c y → b ≡ c → x ≡ y
same_digit h i e = sym (hex_of_lem h) ∙ ap hex_of e ∙ hex_of_lem i

same_digits : {m v w x y : ℕ} {a b : List ℕ} → Digits Hexdig 16 m v a x → Digits Hexdig 16 m w b y → v ≡ w
    → (r c : List ℕ) → a ++ r ≡ b ++ c → (x ≡ y) × (r ≡ c)
same_digits Digits.over Digits.over e r c f = (e, f)
same_digits (Digits.next {x = x} h a) (Digits.next {x = y} i b) e r c f =
    let g : x ≡ y = same_digit h i (same_head f) in same_digits a b (omega arith) r c (same_tail f)

-- as many as come before a brace
same_braced : {m n v w x y : ℕ} {a b : List ℕ} → Digits Hexdig 16 m v a x → Digits Hexdig 16 n w b y → v ≡ w
    → (r c : List ℕ) → a ++ (ch "}" ∷ r) ≡ b ++ (ch "}" ∷ c) → x ≡ y
same_braced Digits.over Digits.over e r c f = e
same_braced Digits.over (Digits.next i b) e r c f = let u = hex_ascii i in let g = same_head f in absurd (omega arith)
same_braced (Digits.next h a) Digits.over e r c f = let u = hex_ascii h in let g = same_head f in absurd (omega arith)
same_braced (Digits.next {x = x} h a) (Digits.next {x = y} i b) e r c f =
    let g : x ≡ y = same_digit h i (same_head f) in same_braced a b (omega arith) r c (same_tail f)

no_brace : {m v x : ℕ} {a : List ℕ} → Digits Hexdig 16 (suc m) v a x → (r c : List ℕ) → ch "{" ∷ r ≡ a ++ c → ⊥
no_brace (Digits.next h a) r c e = let u = hex_ascii h in let g = same_head e in absurd (omega arith)

-- ---- no low surrogate comes first

abbrev NoLow : List ℕ → Type 0
NoLow a = (c : List ℕ) → Low a c → ⊥

low_number : {ds : List ℕ} {n : ℕ} → Hexadecimal 4 ds n → (a c : List ℕ) → Low (letters "\\u" ++ (ds ++ a)) c → In 0xDC00 0xDFFF n
low_number x a c l = subst (In 0xDC00 0xDFFF) (sym (same_digits x l.hexes refl a c (same_tail (same_tail l.is))).0) l.low

-- ---- no good escape begins here

no_surrogate : {n : ℕ} → Scalar n → In 0xD800 0xDFFF n → ⊥
no_surrogate {n} s i = go s.whole
  where
    go : (n < 0xD800) ⊎ (0xDFFF < n) → ⊥
    go (inl h) = omega arith
    go (inr h) = omega arith

-- at a surrogate with no low one behind it
unit_no_escape : {ds : List ℕ} {n : ℕ} → Hexadecimal 4 ds n → In 0xD800 0xDFFF n → (a : List ℕ) → (In 0xD800 0xDBFF n → NoLow a)
    → NoEscape (ch "u" ∷ (ds ++ a))
unit_no_escape x i a f e c w q (Escape.short y) = (short_of_lem y).1.no_u (sym (same_head q))
unit_no_escape x i a f e c w q (Escape.unit y s) = no_surrogate s (subst (In 0xD800 0xDFFF) (same_digits x y refl a c (same_tail q)).0 i)
unit_no_escape x i a f e c w q (Escape.pair {a = ds} {b = es} {low = l} y j z m) =
    let g = same_digits x y refl a (letters "\\u" ++ (es ++ c)) (same_tail q ∙ append_assoc ds (letters "\\u" ++ es) c) in
    f (subst (In 0xD800 0xDBFF) (sym g.0) j) c (record { digits = es; number = l; is = g.1; hexes = z; low = m })
unit_no_escape (Digits.next h x) i a f e c w q (Escape.braced y s) = let u = hex_ascii h in let g = same_head (same_tail q) in absurd (omega arith)

-- at a number in braces that is none of a character
braced_no_escape : {m n : ℕ} {ds : List ℕ} → Hexadecimal (suc m) ds n → (Scalar n → ⊥) → (a : List ℕ) → NoEscape (letters "u{" ++ (ds ++ (ch "}" ∷ a)))
braced_no_escape x f a e c w q (Escape.short y) = (short_of_lem y).1.no_u (sym (same_head q))
braced_no_escape {ds = ds} x f a e c w q (Escape.unit y s) = no_brace y (ds ++ (ch "}" ∷ a)) c (same_tail q)
braced_no_escape {ds = ds} x f a e c w q (Escape.pair {a = es} {b = fs} y j z m) =
    no_brace y (ds ++ (ch "}" ∷ a)) (letters "\\u" ++ (fs ++ c)) (same_tail q ∙ append_assoc es (letters "\\u" ++ fs) c)
braced_no_escape x f a e c w q (Escape.braced {a = es} y s) =
    f (subst Scalar (sym (same_braced x y refl a c (same_tail (same_tail q) ∙ append_assoc es (letters "}") c))) s)

-- ---- all characters are good, or one is the first bad escape

data Judged (q : Quote) (a : List ℕ) : Type 0 where
  good : (u : List ℕ) → CharsOf true q a u → Judged q a
  bad : (x b u v : List ℕ) → a ≡ x ++ (ch "\\" ∷ b) → CharsOf true q x u → CharsOf false q (ch "\\" ∷ b) v → NoEscape b → Judged q a

-- behind good characters
behind : {q : Quote} {a : List ℕ} (c : List ℕ) → ((x u : List ℕ) → CharsOf true q x u → (v : List ℕ) × CharsOf true q (c ++ x) v)
    → Judged q a → Judged q (c ++ a)
behind c f (Judged.good u y) = let g = f _ u y in Judged.good g.0 g.1
behind c f (Judged.bad x b u v e y z n) =
    let g = f x u y in
    Judged.bad (c ++ x) b g.0 v (ap (λ (t : List ℕ). c ++ t) e ∙ sym (append_assoc c x (ch "\\" ∷ b))) g.1 z n

good_escape : {q : Quote} {e w a : List ℕ} → Escape true e w → Judged q a → Judged q (ch "\\" ∷ (e ++ a))
good_escape {e = e} {w = w} y h = behind (ch "\\" ∷ e) (λ x u z. (w ++ u, Chars.escaped y z)) h

-- an escape that is no good one
bad_escape : {q : Quote} {e w a u : List ℕ} → Escape false e w → CharsOf false q a u → NoEscape (e ++ a) → Judged q (ch "\\" ∷ (e ++ a))
bad_escape {e = e} {a = a} y z n = Judged.bad [] (e ++ a) [] _ refl Chars.none (Chars.escaped y z) n

-- a high surrogate with a low one behind it is a pair
good_pair : {q : Quote} {ds a c : List ℕ} {n : ℕ} → Hexadecimal 4 ds n → In 0xD800 0xDBFF n → Low a c → Judged q c → Judged q (letters "\\u" ++ (ds ++ a))
good_pair {q} {ds} {a} {c} x i l h =
    let e = append_assoc ds (letters "\\u" ++ l.digits) c ∙ ap (λ (t : List ℕ). ds ++ t) (sym l.is) in
    subst (λ (t : List ℕ). Judged q (letters "\\u" ++ t)) e (good_escape (Escape.pair x i l.hexes l.low) h)

-- what the induction over the characters carries: a high surrogate in front of them needs what is behind a low one
abbrev Next : Quote → List ℕ → Type 0
Next q a = ((c : List ℕ) × Low a c × Judged q c) ⊎ NoLow a

record Viewed (q : Quote) (a : List ℕ) : Type 0 where
  judged : Judged q a
  next : Next q a

-- a unit is a character, a high or a low surrogate
module _ {q : Quote} {ds a u : List ℕ} {n : ℕ} (x : Hexadecimal 4 ds n) (y : CharsOf false q a u) (h : Viewed q a) where
  bad_unit : In 0xD800 0xDFFF n → (In 0xD800 0xDBFF n → NoLow a) → Judged q (letters "\\u" ++ (ds ++ a))
  bad_unit i f = bad_escape (Escape.unit x tt) y (unit_no_escape x i a f)

  unit_judged : Judged q (letters "\\u" ++ (ds ++ a))
  unit_judged = go (dec_lt n 0xD800) (dec_lt n 0xDC00) (dec_lt n 0xE000)
    where
      high : In 0xD800 0xDBFF n → Next q a → Judged q (letters "\\u" ++ (ds ++ a))
      high i (inl l) = good_pair x i l.1 l.2
      high i (inr f) = bad_unit (omega arith) (λ j. f)

      go : Dec (n < 0xD800) → Dec (n < 0xDC00) → Dec (n < 0xE000) → Judged q (letters "\\u" ++ (ds ++ a))
      go (yes i) j k = good_escape (Escape.unit x (record { top = omega arith; whole = inl i })) h.judged
      go (no i) (yes j) k = high (omega arith) h.next
      go (no i) (no j) (yes k) = bad_unit (omega arith) (λ (l : In 0xD800 0xDBFF n). absurd (omega arith))
      go (no i) (no j) (no k) = let s = four_small x in good_escape (Escape.unit x (record { top = omega arith; whole = inr (omega arith) })) h.judged

  unit_next : Next q (letters "\\u" ++ (ds ++ a))
  unit_next = go (dec_lt n 0xDC00) (dec_lt n 0xE000)
    where
      go : Dec (n < 0xDC00) → Dec (n < 0xE000) → Next q (letters "\\u" ++ (ds ++ a))
      go (no i) (yes j) = inl (a, record { digits = ds; number = n; is = refl; hexes = x; low = omega arith }, h.judged)
      go (yes i) j = inr (λ c l. let k = low_number x a c l in omega arith)
      go (no i) (no j) = inr (λ c l. let k = low_number x a c l in omega arith)

module _ {q : Quote} {ds a u : List ℕ} {m n : ℕ} (x : Hexadecimal (suc m) ds n) (y : CharsOf false q a u) (h : Judged q a) where
  abbrev All : List ℕ
  All = ch "\\" ∷ ((letters "u{" ++ (ds ++ letters "}")) ++ a)

  bad_braced : (Scalar n → ⊥) → Judged q All
  bad_braced f =
      bad_escape (Escape.braced x tt) y (subst NoEscape (ap (λ (t : List ℕ). letters "u{" ++ t) (sym (append_assoc ds (letters "}") a)))
      (braced_no_escape x f a))

  braced_judged : Judged q All
  braced_judged = go (dec_lt n 0xD800) (dec_lt n 0xE000) (dec_le n 0x10FFFF)
    where
      go : Dec (n < 0xD800) → Dec (n < 0xE000) → Dec (n ≤ 0x10FFFF) → Judged q All
      go (yes i) j k = good_escape (Escape.braced x (record { top = omega arith; whole = inl i })) h
      go (no i) (yes j) k = bad_braced (λ s. no_surrogate s (omega arith))
      go (no i) (no j) (yes k) = good_escape (Escape.braced x (record { top = k; whole = inr (omega arith) })) h
      go (no i) (no j) (no k) = bad_braced (λ (s : Scalar n). let t = s.top in omega arith)

viewed : {q : Quote} {a u : List ℕ} → CharsOf false q a u → Viewed q a
viewed Chars.none = record { judged = Judged.good [] Chars.none; next = inr (λ c l. let e = l.is in let z : ◌≡◌ {A = ℕ} 0 1 = cc in omega arith) }
viewed {q} (Chars.plain {a = a} (Among.character {n = n} s o) y) =
    let f = first_of_lem (plain_each q n s o) (encode_some n s) in
    record {
      judged = behind (encode n) (λ x u z. (encode n ++ u, Chars.plain (Among.character s o) z)) (viewed y).judged;
      next = inr (λ c l. f.has.no_back (same_head (ap (λ (t : List ℕ). t ++ a) (sym f.is) ∙ l.is)));
    }
viewed (Chars.escaped (Escape.short x) y) =
    record { judged = good_escape (Escape.short x) (viewed y).judged; next = inr (λ c l. (short_of_lem x).1.no_u (same_head (same_tail l.is))) }
viewed (Chars.escaped (Escape.unit x s) y) = let h = viewed y in record { judged = unit_judged x y h; next = unit_next x y h }
viewed (Chars.escaped {a = r} (Escape.pair {a = a} {b = b} {high = n} x i z j) y) =
    let f : NoLow (letters "\\u" ++ (a ++ (letters "\\u" ++ (b ++ r)))) = λ c l. let k = low_number x (letters "\\u" ++ (b ++ r)) c l in omega arith in
    record {
      judged = good_escape (Escape.pair x i z j) (viewed y).judged;
      next = inr (subst NoLow (ap (λ (t : List ℕ). letters "\\u" ++ t) (sym (append_assoc a (letters "\\u" ++ b) r))) f);
    }
viewed (Chars.escaped (Escape.braced x s) y) =
    record { judged = braced_judged x y (viewed y).judged; next = inr (λ c l. no_brace l.hexes _ c (same_tail (same_tail l.is))) }
viewed {q} (Chars.other_quote y) =
    record {
      judged = behind (mark (other q) ∷ []) (λ x u z. (mark (other q) ∷ u, Chars.other_quote z)) (viewed y).judged;
      next = inr (λ c l. (between_other q 0xFF (omega arith)).no_back (same_head l.is));
    }

-- ---- a part that has closed with a bad escape in it is no good one

blamed_stops : (acc : List ℕ) {z : Bad} {q : ℕ} → z ≡ spoilt q → Stops (S.close acc z) → ⊥
blamed_stops acc e h = rw e at h

not_good : {a u : List ℕ} {p q : ℕ} {c : Ctx} → StringPart true a u → Steps scan p begin a (done c) → bad_now c ≡ spoilt q → ⊥
unfolding scan
not_good {p = p} {c = c} x r e =
    blamed_stops c.acc e (end_out_lem scan {Q = Stops} (PartEnds.ends EndsItem.end) (goes_end scan r (value_goes scan tt (part_goes x p))))

-- ---- the fault

module _ (f tail : List ℕ) (d : ℕ) (s : Spot) (left : Left d s f) (c : Ctx) (q : ℕ) (blames : bad_now c ≡ spoilt q) where
  respelt : (m n : ℕ) (x b : List ℕ) → f ++ (m ∷ (x ++ (n ∷ (b ++ (m ∷ tail))))) ≡ f ++ ((m ∷ ((x ++ (n ∷ b)) ++ (m ∷ []))) ++ tail)
  respelt m n x b = ap (λ (t : List ℕ). f ++ (m ∷ t)) (simp append_assoc)

  abbrev between : Quote → List ℕ → List ℕ
  between j a = mark j ∷ (a ++ (mark j ∷ []))

  line_fault : {j : Quote} {a : List ℕ} → Judged j a → Steps scan (length f) begin (between j a) (done c) → Faulty (f ++ (between j a ++ tail))
  line_fault {j} (Judged.good u y) r = absurd (not_good (StringPart.one_line (Quoted.quoted j y)) r blames)
  line_fault {j} (Judged.bad x b u v e y z n) r =
      subst Faulty (respelt (mark j) (ch "\\") x b ∙ ap (λ (t : List ℕ). f ++ (between j t ++ tail)) (sym e)) (_, ItemFault.escape tail left y z n)

  part_fault : {a u : List ℕ} → StringPart false a u → Steps scan (length f) begin a (done c) → Faulty (f ++ (a ++ tail))
  part_fault (StringPart.one_line (Quoted.quoted j x)) r = line_fault (viewed x).judged r
  part_fault (StringPart.multiline j x n) r = absurd (not_good (StringPart.multiline j x n) r blames)
  part_fault (StringPart.trimmed j n x) r = absurd (not_good (StringPart.trimmed j n x) r blames)

-- parts, each with a plus
concat_left : {d : ℕ} {s : Spot} {l a u v w : List ℕ} → Left d s l → Concat (StringPart true) a u → Ws v → Ws w → Left d part (l ++ (a ++ (v ++ (ch "+" ∷ w))))
concat_left h (Concat.part x) i j = Left.plus h x i j
concat_left {d = d} {l = l} {v = v} {w = w} h (Concat.plus {a = a} {v = v'} {w = w'} {b = b} x i' j' y) i j =
    subst (Left d part) (respelt' l a v' w' b (v ++ (ch "+" ∷ w)) (ch "+")) (concat_left (Left.plus h x i' j') y i j)
  where
    respelt' : (l a v w b e : List ℕ) (c : ℕ) → (l ++ (a ++ (v ++ (c ∷ w)))) ++ (b ++ e) ≡ l ++ ((a ++ (v ++ (c ∷ (w ++ b)))) ++ e)
    respelt' l a v w b e c = simp append_assoc

part_left : (z : Use) (u : List ℕ) (k : List Frame) (d : ℕ) (l : List ℕ) → PartStart z u k d l → (s : Spot) × Left d s l
part_left z u k d l (inl h) = start_left z k d l h.0
part_left z u k d l (inr h) = let g = start_left z k d h.front h.starts in (part, rw h.split (concat_left g.1 h.is h.layout h.further))

-- why a part breaks
pub part_breaks : (p d : ℕ) (k : List Frame) (z : Use) (u : List ℕ) (s : St) (l tail : List ℕ) (b : ℕ) (r : Refusal) → Octets (l ++ tail)
    → ItemAt p k d (Machine.string_part z u s) l → scan p s b ≡ breaks r → Reason (l ++ tail) r
part_breaks p d k z u s l tail b r o h e = go (subst (Kept b s) e (kept p s b (steps_sane h.steps tt)))
  where
    f : List ℕ
    f = h.front

    a : List ℕ
    a = h.body

    split : l ++ tail ≡ f ++ (a ++ tail)
    split = ap (λ (t : List ℕ). t ++ tail) h.split ∙ append_assoc f a tail

    go : Kept b s (breaks r) → Reason (l ++ tail) r
    go (inl x) = inl x
    go (inr (c, q, i, m)) =
        let x : Steps scan (length f) begin a (done c) = subst (Steps scan (length f) begin a) i h.steps in
        let w : PartBare begin a [] = steps_back scan PartBare bare_is {v = []} x refl in
        let y = part_left z u k d f h.starts in
        inr (subst Faulty (sym split) (part_fault f tail d y.0 y.1 c q m (raw_whole f a tail w.1 (subst Octets split o)) x))
