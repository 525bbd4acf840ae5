-- 5 and 6, from the grammar to the machine: a number or a time value that fails its check is refused with it at its first byte.
-- Assumes nothing.
use Prim.Native.Nat.{ℕ, zero, suc, ◌*◌, ◌^◌}
use mathlib.Core.Path.{◌≡◌, refl, sym, ap, ◌∙◌, subst}
use mathlib.Core.Bool.{Bool, true, false, cond, ◌&&◌}
use mathlib.Core.Logic.{◌⊎◌, inl, inr}
use mathlib.Core.List.{List, [], ◌∷◌, ◌++◌, append_assoc, append-nil}
use native.Mathlib.Omega.{arith}
use lib.Dec.{eqb}
use lib.IntN.{ℤ}
use lib.ListN.{length, length-append}
use Rattle.rules.proofs.Characters.{same_head, same_tail}
use Rattle.meaning.specs.declared.Number as N
use Rattle.meaning.specs.declared.Time as T
use Rattle.meaning.specs.declared.Date as D
use Rattle.meaning.specs.declared.Refusal.{Refusal}
use Rattle.meaning.specs.declared.Refusal.TheVariants.{NotGrammar, BadTime, BadNumber}
use Rattle.meaning.specs.Letters.{letters, ch}
use Rattle.meaning.specs.Meaning.{Meaning}
use Rattle.grammar.specs.Characters.{Digit, Digits, Decimal}
use Rattle.grammar.specs.Numbers.{Number}
use Rattle.grammar.specs.Times.{Fraction, TimeSecfrac, TimeHour, TimeMinute, LocalTimeText, LocalDateText, Separator, Zulu, TimeOffset, TimeValue}
use Rattle.grammar.specs.Refused.{Numeric, TakesNone, value, Left}
use Rattle.machine.specs.Scan.{takes, stops, breaks, over}
use Rattle.machine.specs.Machine
use Rattle.machine.specs.Machine.{Got, want, base, item, Frame, at, read, lift, on_out, No, reading}
use Rattle.machine.specs.Numeric as Nu
use Rattle.machine.specs.Numeric.{St, Res, begin, scan}
use Rattle.machine.proofs.Runs as Runs
use Rattle.machine.proofs.Runs.{GoesTo, Steps, steps_join, adv, OutIs, goes_end, end_out_lem, steps_with, steps_back}
use Rattle.machine.proofs.Layouts.{adv_join}
use Rattle.machine.proofs.Complete.{begun, lead_starts}
use Rattle.machine.proofs.Numeric as NN
use Rattle.machine.proofs.Numeric.{NumericItem, NumericRest, numeric_is, Taken}
use Rattle.machine.proofs.Numeric.Complete.{settle_hex}
use Rattle.machine.proofs.Whole.{absorbing}
use Rattle.machine.proofs.Refusals.Items.{Outcome, IsNumber, NumberOut, settle_out, number_out, IsTime, TimeOut, time_out}
use Rattle.machine.proofs.Refusals.Untaken.{Takes, no_takes, any_byte, after_space, space_digitless}
use Rattle.machine.proofs.Refusals.Finishes.{numeric_finish}
use Rattle.machine.proofs.Refusals.Left.{left_stood}
use Rattle.machine.proofs.Refusals.Refuses.{adv_length}

-- ---- a byte that is taken is taken by some rule

zeros : Decimal 2 0 (letters "00") 0
zeros = Digits.next (Digit.digit {b = ch "0"} (omega arith)) (Digits.next (Digit.digit {b = ch "0"} (omega arith)) Digits.over)

taken_some : {z : List ℕ} {w : Meaning} → Taken false z w → (v : List ℕ) × Numeric (z ++ v)
taken_some (Taken.item {a = a} (NumericItem.number y)) = ([], rw append-nil (Numeric.number y))
taken_some (Taken.item {a = a} (NumericItem.time_value y)) = ([], rw append-nil (Numeric.time_value y))
taken_some (Taken.trailed {a = a} y) =
    let clock = LocalTimeText.local_time (TimeHour.hour zeros tt) (TimeMinute.sixtieth zeros tt) (TimeMinute.sixtieth zeros tt) TimeSecfrac.absent in
    (letters "00:00:00", rw append_assoc (Numeric.time_value (TimeValue.local_date_time y Separator.space clock)))

takes_not : (p : ℕ) (c : List ℕ) (s : St) (b : ℕ) → Steps scan p begin c s → ((y : List ℕ) → Numeric (c ++ (b ∷ y)) → ⊥) → Takes (scan (adv p c) s b) → ⊥
takes_not p c s b x n = go (scan (adv p c) s b) refl
  where
    go : (o : Res) → scan (adv p c) s b ≡ o → Takes o → ⊥
    go (takes t) e h =
        let f = numeric_finish t in
        let g : NumericRest false s (b ∷ f.0) f.1 = subst (OutIs (NumericRest false) s b) e (numeric_is false (adv p c) s b) f.0 f.1 f.2 in
        let i = taken_some (steps_with scan (NumericRest false) (numeric_is false) x g) in
        n (f.0 ++ i.0) (subst Numeric (append_assoc c (b ∷ f.0) i.0) i.1)
    go (stops m) e h = h
    go (breaks r) e h = h

-- ---- the run

steps_read : {p : ℕ} {s s' : St} {a : List ℕ} → Steps scan p s a s' → (d : ℕ) (k : List Frame) (r : List ℕ)
    → read p (at (item (Machine.numeric s)) d k) (a ++ r) ≡ read (adv p a) (at (item (Machine.numeric s')) d k) r
unfolding read
steps_read Steps.stay d k r = refl
steps_read (Steps.eat {p = p} {b = b} {a = a} x e) d k r =
    ap (λ (o : Res). read (suc p) (on_out p d k b (lift Machine.numeric Got.value o)) (a ++ r)) e ∙ steps_read x d k r

breaks_read : (p : ℕ) (s : St) (b : ℕ) (r : List ℕ) (d : ℕ) (k : List Frame) (R : Refusal) → scan p s b ≡ breaks R
    → read p (at (item (Machine.numeric s)) d k) (b ∷ r) ≡ No R
unfolding read
breaks_read p s b r d k R e = ap (λ (o : Res). read (suc p) (on_out p d k b (lift Machine.numeric Got.value o)) r) e ∙ absorbing (suc p) R r

breaks_end : (p : ℕ) (s : St) (d : ℕ) (k : List Frame) (R : Refusal) → scan p s over ≡ breaks R → read p (at (item (Machine.numeric s)) d k) [] ≡ No R
unfolding read
breaks_end p s d k R e = ap (λ (o : Res). Machine.end_out p k (lift Machine.numeric Got.value o)) e

goes_steps : {Q : Res → Type 0} {F : ℕ → Type 0} {p : ℕ} {s : St} {a : List ℕ} → GoesTo scan Q F p s a → (t : St) × Steps scan p s a t
goes_steps {s = s} (GoesTo.ends h) = (s, Steps.stay)
goes_steps (GoesTo.goes g e) = let h = goes_steps g in (h.0, Steps.eat h.1 e)

-- the item begins where a value is wanted, behind what the grammar allows on the left
begins_read : {d : ℕ} {l x : List ℕ} {Q : Res → Type 0} {F : ℕ → Type 0} → Left d value l → NN.Begins x → GoesTo scan Q F (adv 0 l) begin x
    → (r : List ℕ) → (k : List Frame) × (s : St) × Steps scan (adv 0 l) begin x s ×
    (reading (l ++ (x ++ r)) ≡ read (adv (adv 0 l) x) (at (item (Machine.numeric s)) d k) r)
unfolding reading
begins_read {d} {l} {x} h i g r =
    let k = left_stood h in
    let y = goes_steps g in
    (k.0, y.0, y.1, k.1 (x ++ r) ∙ starts i (adv 0 l) k.0 ∙ steps_read y.1 d k.0 r)
  where
    starts : {x : List ℕ} → NN.Begins x → (p : ℕ) (k : List Frame)
        → read p (at (base want) d k) (x ++ r) ≡ read p (at (item (Machine.numeric begin)) d k) (x ++ r)
    starts (NN.Begins.begins {b = b} {a = t} j) p k = begun p d k want b (t ++ r) _ (lead_starts j p d k)

first_byte : (l : List ℕ) → adv 0 l ≡ length l
first_byte l = adv_length l 0 ∙ omega arith

-- an outcome with no value, as none that it may have is one of the grammar with its checks: the refusal
refuses : (P : Meaning → Type 0) (r : Refusal) (p : ℕ) (c : List ℕ) (s : St) → Steps scan p begin c s → ((m : Meaning) → Taken true c m → P m → ⊥)
    → (b : ℕ) → Outcome P (λ x. x ≡ r) (scan (adv p c) s b) → scan (adv p c) s b ≡ breaks r
refuses P r p c s x n b h = go (scan (adv p c) s b) refl h
  where
    go : (o : Res) → scan (adv p c) s b ≡ o → Outcome P (λ x. x ≡ r) o → o ≡ breaks r
    go (takes v) e h = absurd h
    go (stops m) e h =
        absurd (n m (steps_back scan (NumericRest true) (numeric_is true) x (subst (OutIs (NumericRest true) s b) e (numeric_is true (adv p c) s b))) h)
    go (breaks z) e h = ap (λ (y : Refusal). breaks y) h

-- ---- 6: a number takes no space

no_number_takes : (q : ℕ) (o : Res) → NumberOut q o → Takes o → ⊥
no_number_takes q = no_takes IsNumber (λ r. r ≡ BadNumber q)

tested_takes : (q : ℕ) (ok : Bool) (t : T.Time) → Takes (Nu.tested q ok t) → ⊥
tested_takes q true t h = h
tested_takes q false t h = h

tested_number : (p q : ℕ) (ok : Bool) (t : T.Time) → NumberOut p (Nu.tested q ok t) → ⊥
tested_number p q true t (n, e) = let z : ◌≡◌ {A = ℕ} 0 1 = cc in omega arith
tested_number p q false t e = let z : ◌≡◌ {A = ℕ} 0 1 = cc in omega arith

clock_takes : (q : ℕ) (w : Nu.When) (h m s n : ℕ) → Takes (Nu.on_zone q w h m s n Nu.other_s) → ⊥
clock_takes q Nu.alone h m s n t = tested_takes q (Nu.ok_clock h m s) _ t
clock_takes q (Nu.on d) h m s n t = tested_takes q (Nu.ok_date d && Nu.ok_clock h m s) _ t

settle_takes : (q : ℕ) (g : Bool) (m up dn : ℕ) → Takes (Nu.settle q g m up dn) → ⊥
settle_takes q g m up dn t = no_number_takes q (Nu.settle q g m up dn) (settle_out q g m up dn) t

letter_left : (q p : ℕ) (z : Bool) (s : St) → NumberOut q (cond z (takes s) (breaks (NotGrammar p))) → ⊥
letter_left q p true s h = h
letter_left q p false s h = let z : ◌≡◌ {A = ℕ} 0 1 = cc in omega arith

-- where it may end, as it does at the text's end
no_space : (q p : ℕ) (s : St) → NumberOut q (scan p s over) → Takes (scan p s (ch " ")) → ⊥
no_space q p begin h t = t
no_space q p (Nu.sign i g) h t = t
no_space q p (Nu.word [] n) h t = t
no_space q p (Nu.word (c ∷ a) n) h t = letter_left q p (eqb over c) (Nu.word a n) h
no_space q p (Nu.nought i g) h t = settle_takes i g 0 0 0 t
no_space q p (Nu.int i g m) h t = settle_takes i g m 0 0 t
no_space q p (Nu.point i g) h t = t
no_space q p (Nu.frac i g m f) h t = settle_takes i g m 0 f t
no_space q p (Nu.exp i g m f) h t = t
no_space q p (Nu.exp_sign i g m f s) h t = t
no_space q p (Nu.exp_digits i g m f s e) h t = no_number_takes q (Nu.scaled i g m f s e) h t
no_space q p (Nu.hex_mark i g) h t = t
no_space q p (Nu.hex i g v) h t = no_number_takes q (settle_hex i g v) h t
no_space q p (Nu.both i k false v) h t = settle_takes i false v 0 0 t
no_space q p (Nu.both i Nu.d1 true v) h t = settle_takes i false 0 0 0 t
no_space q p (Nu.both i Nu.d2 true v) h t = t
no_space q p (Nu.both i Nu.d3 true v) h t = t
no_space q p (Nu.both i Nu.d4 true v) h t = t
no_space q p (Nu.field i (Nu.month y) zero v) h t = t
no_space q p (Nu.field i (Nu.day y m) zero v) h t = tested_number q i (Nu.ok_date (Nu.dated y m v)) _ h
no_space q p (Nu.field i (Nu.hour d) zero v) h t = t
no_space q p (Nu.field i (Nu.minute w x) zero v) h t = t
no_space q p (Nu.field i (Nu.second w x m) zero v) h t = clock_takes i w x m v 0 t
no_space q p (Nu.field i (Nu.offset_hour d x m s n g) zero v) h t = t
no_space q p (Nu.field i (Nu.offset_minute d x m s n g j) zero v) h t = no_number_takes q (scan p (Nu.field i (Nu.offset_minute d x m s n g j) zero v) over) h t
no_space q p (Nu.field i l (suc n) v) h t = t
no_space q p (Nu.spaced i d) h t = no_number_takes q (scan p (Nu.spaced i d) over) h t
no_space q p (Nu.sec_point i w x m s) h t = t
no_space q p (Nu.nanos i w x m s k v) h t = clock_takes i w x m s (v * 10 ^ k) t
no_space q p (Nu.zulu i d x m s n) h t = no_number_takes q (scan p (Nu.zulu i d x m s n) over) h t

-- ---- 6

number_of : {b : List ℕ} {m : Meaning} {n : N.Number} → Taken true b m → m ≡ Meaning.number n → Number true b n
number_of {b} {n = n} (Taken.item (NumericItem.number y)) e = subst (Number true b) (inner e) y
  where
    inner : {x y : N.Number} → Meaning.number x ≡ Meaning.number y → x ≡ y
    inner h = cc
number_of (Taken.item (NumericItem.time_value y)) e = absurd (let z : ◌≡◌ {A = ℕ} 0 1 = cc in omega arith)
number_of (Taken.trailed y) e = absurd (let z : ◌≡◌ {A = ℕ} 0 1 = cc in omega arith)

module _ (p : ℕ) (a : List ℕ) (n : N.Number) (y : Number false a n) (bad : (m : N.Number) → Number true a m → ⊥) (s : St) (x : Steps scan p begin a s) where
  sure : (b : ℕ) → NumberOut p (scan (adv p a) s b) → scan (adv p a) s b ≡ breaks (BadNumber p)
  sure = refuses IsNumber (BadNumber p) p a s x (λ m z h. bad h.0 (number_of z h.1))

  ended : GoesTo scan (NumberOut p) Runs.EndsItem (adv p a) s []
  ended = goes_end scan x (number_out y p)

  not_taken : (b : ℕ) → (Takes (scan (adv p a) s b) → ⊥) → scan (adv p a) s b ≡ breaks (BadNumber p)
  not_taken b f = sure b (any_byte IsNumber (λ r. r ≡ BadNumber p) (number_out y p) x b f)

  number_walk : {c r : List ℕ} → TakesNone c r → c ≡ a → (d : ℕ) (k : List Frame) → read (adv p a) (at (item (Machine.numeric s)) d k) r ≡ No (BadNumber p)
  number_walk TakesNone.over q d k = breaks_end (adv p a) s d k (BadNumber p) (sure over (end_out_lem scan Runs.EndsItem.end ended))
  number_walk (TakesNone.byte {b = b} {r = r} f) q d k =
      let g : (z : List ℕ) → Numeric (a ++ (b ∷ z)) → ⊥ = λ z i. f z (subst (λ (c : List ℕ). Numeric (c ++ (b ∷ z))) (sym q) i) in
      breaks_read (adv p a) s b r d k (BadNumber p) (not_taken b (takes_not p a s b x g))
  number_walk (TakesNone.space {r = r} w) q d k =
      breaks_read (adv p a) s (ch " ") r d k (BadNumber p) (not_taken (ch " ") (no_space p (adv p a) s (end_out_lem scan Runs.EndsItem.end ended)))

-- 6 is given at the number's first byte
pub number_given : (d : ℕ) (l x r : List ℕ) (n : N.Number) → Left d value l → Number false x n → ((m : N.Number) → Number true x m → ⊥) → TakesNone x r
    → reading (l ++ (x ++ r)) ≡ No (BadNumber (length l))
number_given d l x r n h y bad e =
    let (k, s, z, f) = begins_read h (NN.number_begins y) (number_out y (adv 0 l)) r in
    f ∙ number_walk (adv 0 l) x n y bad s z e refl d k ∙ ap (λ (p : ℕ). No (BadNumber p)) (first_byte l)

-- ---- 5: a time value does not end in a space

abbrev Ended : List ℕ → Type 0
Ended a = (x : List ℕ) × (b : ℕ) × (a ≡ x ++ (b ∷ [])) × (b ≡ ch " " → ⊥)

more : (c : List ℕ) {a : List ℕ} → Ended a → Ended (c ++ a)
more c h = (c ++ h.0, h.1, ap {B = List ℕ} (λ (z : List ℕ). c ++ z) h.2 ∙ sym (append_assoc c h.0 (h.1 ∷ [])), h.3)

cons : {b v : ℕ} → Digit b v → {a : List ℕ} → (a ≡ []) ⊎ Ended a → Ended (b ∷ a)
cons (Digit.digit {b = b} i) (inl e) = ([], b, ap {B = List ℕ} (λ (z : List ℕ). b ∷ z) e, λ f. omega arith)
cons (Digit.digit {b = b} i) (inr h) = more (b ∷ []) h

decimal_or : {n v w : ℕ} {a : List ℕ} → Decimal n v a w → (a ≡ []) ⊎ Ended a
decimal_or Digits.over = inl refl
decimal_or (Digits.next d x) = inr (cons d (decimal_or x))

two_ended : {v w : ℕ} {a : List ℕ} → Decimal 2 v a w → Ended a
two_ended (Digits.next d x) = cons d (decimal_or x)

fraction_or : {n v w : ℕ} {a : List ℕ} → Fraction n v a w → (a ≡ []) ⊎ Ended a
fraction_or Fraction.over = inl refl
fraction_or (Fraction.counts d x) = inr (cons d (fraction_or x))
fraction_or (Fraction.cut d x) = inr (cons d (fraction_or x))

some : {b : ℕ} {a : List ℕ} → (b ∷ a ≡ []) ⊎ Ended (b ∷ a) → Ended (b ∷ a)
some (inl e) = absurd (let z : ◌≡◌ {A = ℕ} 0 1 = cc in omega arith)
some (inr h) = h

clock_ended : {k : Bool} {a : List ℕ} {n : ℕ} → LocalTimeText k a n → Ended a
clock_ended (LocalTimeText.local_time {a = a} {b = b} {c = c} (TimeHour.hour h l) (TimeMinute.sixtieth m i) (TimeMinute.sixtieth s j) f) =
    more a (more (ch ":" ∷ b) (more (ch ":" ∷ []) (go f)))
  where
    go : {f : List ℕ} {n : ℕ} → TimeSecfrac f n → Ended (c ++ f)
    go TimeSecfrac.absent = rw append-nil (two_ended s)
    go (TimeSecfrac.given x) = more c (more (ch "." ∷ []) (some (fraction_or x)))

date_ended : {k : Bool} {a : List ℕ} {d : D.Date} → LocalDateText k a d → Ended a
date_ended (LocalDateText.local_date {a = a} {b = b} y m d x) = more a (more (ch "-" ∷ b) (more (ch "-" ∷ []) (two_ended d)))

offset_ended : {k : Bool} {a : List ℕ} {o : ℤ} → TimeOffset k a o → Ended a
offset_ended (TimeOffset.zulu Zulu.letter) = ([], ch "Z", refl, λ e. omega arith)
offset_ended (TimeOffset.zulu Zulu.small_letter) = ([], ch "z", refl, λ e. omega arith)
offset_ended (TimeOffset.numoffset {x = x} {a = a} p h (TimeMinute.sixtieth m i)) = more (x ∷ a) (more (ch ":" ∷ []) (two_ended m))

time_ended : {k : Bool} {a : List ℕ} {t : T.Time} → TimeValue k a t → Ended a
time_ended (TimeValue.local_date d) = date_ended d
time_ended (TimeValue.local_time c) = clock_ended c
time_ended (TimeValue.local_date_time {a = a} {x = x} d s c) = more a (more (x ∷ []) (clock_ended c))
time_ended (TimeValue.offset_date_time {a = a} {b = b} {x = x} d s c o) = more a (more (x ∷ b) (offset_ended o))

snoc : (x c : List ℕ) (b e : ℕ) → x ++ (b ∷ []) ≡ c ++ (e ∷ []) → (x ≡ c) × (b ≡ e)
snoc [] [] b e f = (refl, same_head f)
snoc [] (y ∷ c) b e f = absurd (let g = ap length (same_tail f) ∙ length-append c (e ∷ []) in omega arith)
snoc (y ∷ x) [] b e f = absurd (let g = sym (length-append x (b ∷ [])) ∙ ap length (same_tail f) in omega arith)
snoc (y ∷ x) (z ∷ c) b e f = let h = snoc x c b e (same_tail f) in (both (same_head f) h.0, h.1)
  where
    both : y ≡ z → x ≡ c → y ∷ x ≡ z ∷ c
    both p q = cc

no_space_last : {k : Bool} {a : List ℕ} {t : T.Time} → TimeValue k a t → (c : List ℕ) → a ≡ c ++ letters " " → ⊥
no_space_last y c e = let h = time_ended y in h.3 (snoc h.0 c h.1 (ch " ") (sym h.2 ∙ e)).1

-- ---- 5

module _ (p : ℕ) (a : List ℕ) (t : T.Time) (y : TimeValue false a t) (bad : (u : T.Time) → TimeValue true a u → ⊥) where
  bad_at_lem : {b : List ℕ} {m : Meaning} {u : T.Time} → Taken true b m → m ≡ Meaning.time u → b ≡ a → ⊥
  bad_at_lem (Taken.item (NumericItem.number z)) e f = let z : ◌≡◌ {A = ℕ} 0 1 = cc in omega arith
  bad_at_lem (Taken.item (NumericItem.time_value {t = w} z)) e f = bad w (subst (λ (b : List ℕ). TimeValue true b w) f z)
  bad_at_lem (Taken.trailed {a = c} z) e f = no_space_last y c (sym f)

  bad_spaced : {b : List ℕ} {m : Meaning} {u : T.Time} → Taken true b m → m ≡ Meaning.time u → b ≡ a ++ letters " " → ⊥
  bad_spaced (Taken.item (NumericItem.number z)) e f = let z : ◌≡◌ {A = ℕ} 0 1 = cc in omega arith
  bad_spaced (Taken.item (NumericItem.time_value z)) e f = no_space_last z a f
  bad_spaced (Taken.trailed {a = c} {d = d} z) e f =
      bad _ (TimeValue.local_date (subst (λ (b : List ℕ). LocalDateText true b d) (snoc c a (ch " ") (ch " ") f).0 z))

  module _ (u : St) (x : Steps scan p begin (a ++ letters " ") u) (d : ℕ) (k : List Frame) where
    abbrev here : ℕ
    here = adv p (a ++ letters " ")

    good : (b : ℕ) → TimeOut p (scan here u b) → scan here u b ≡ breaks (BadTime p)
    good = refuses IsTime (BadTime p) p (a ++ letters " ") u x (λ m z h. bad_spaced z h.1 refl)

    digitless : (b : ℕ) → Runs.NoDigit b → scan here u b ≡ breaks (BadTime p)
    digitless b n = good b (space_digitless IsTime (λ r. r ≡ BadTime p) (time_out y p) x b n)

    spaced_walk : {c r : List ℕ} → TakesNone c r → c ≡ a ++ letters " " → read here (at (item (Machine.numeric u)) d k) r ≡ No (BadTime p)
    spaced_walk TakesNone.over q = breaks_end here u d k (BadTime p) (digitless over (Runs.NoDigit.past (omega arith)))
    spaced_walk (TakesNone.byte {b = b} {r = r} f) q =
        let g : (z : List ℕ) → Numeric ((a ++ letters " ") ++ (b ∷ z)) → ⊥ = λ z i. f z (subst (λ (c : List ℕ). Numeric (c ++ (b ∷ z))) (sym q) i) in
        breaks_read here u b r d k (BadTime p) (good b (after_space IsTime (λ r. r ≡ BadTime p) (time_out y p) x b (takes_not p (a ++ letters " ") u b x g)))
    spaced_walk (TakesNone.space {r = r} w) q = breaks_read here u (ch " ") r d k (BadTime p) (digitless (ch " ") (Runs.NoDigit.under (omega arith)))

  module _ (s : St) (x : Steps scan p begin a s) (d : ℕ) (k : List Frame) where
    good_now : (b : ℕ) → TimeOut p (scan (adv p a) s b) → scan (adv p a) s b ≡ breaks (BadTime p)
    good_now = refuses IsTime (BadTime p) p a s x (λ m z h. bad_at_lem z h.1 refl)

    untaken : (b : ℕ) → (Takes (scan (adv p a) s b) → ⊥) → scan (adv p a) s b ≡ breaks (BadTime p)
    untaken b n = good_now b (any_byte IsTime (λ r. r ≡ BadTime p) (time_out y p) x b n)

    time_walk : {c r : List ℕ} → TakesNone c r → c ≡ a → read (adv p a) (at (item (Machine.numeric s)) d k) r ≡ No (BadTime p)
    time_walk TakesNone.over q = breaks_end (adv p a) s d k (BadTime p) (good_now over (end_out_lem scan Runs.EndsItem.end (goes_end scan x (time_out y p))))
    time_walk (TakesNone.byte {b = b} {r = r} f) q =
        let g : (z : List ℕ) → Numeric (a ++ (b ∷ z)) → ⊥ = λ z i. f z (subst (λ (c : List ℕ). Numeric (c ++ (b ∷ z))) (sym q) i) in
        breaks_read (adv p a) s b r d k (BadTime p) (untaken b (takes_not p a s b x g))
    time_walk (TakesNone.space {x = c} {r = r} w) q = go (scan (adv p a) s (ch " ")) refl
      where
        go : (o : Res) → scan (adv p a) s (ch " ") ≡ o → read (adv p a) (at (item (Machine.numeric s)) d k) (ch " " ∷ r) ≡ No (BadTime p)
        go (takes v) e =
            steps_read (Steps.eat Steps.stay e) d k r ∙ ap (λ (i : ℕ). read i (at (item (Machine.numeric v)) d k) r) (sym (adv_join p a (letters " ")))
            ∙ spaced_walk v (steps_join scan x (Steps.eat Steps.stay e)) d k w (ap (λ (z : List ℕ). z ++ letters " ") q)
        go (stops m) e = breaks_read (adv p a) s (ch " ") r d k (BadTime p) (untaken (ch " ") (λ t. subst Takes e t))
        go (breaks z) e = breaks_read (adv p a) s (ch " ") r d k (BadTime p) (untaken (ch " ") (λ t. subst Takes e t))

-- 5 is given at the time value's first byte
pub time_given : (d : ℕ) (l x r : List ℕ) (t : T.Time) → Left d value l → TimeValue false x t → ((u : T.Time) → TimeValue true x u → ⊥) → TakesNone x r
    → reading (l ++ (x ++ r)) ≡ No (BadTime (length l))
time_given d l x r t h y bad e =
    let (k, s, z, f) = begins_read h (NN.time_begins y) (time_out y (adv 0 l)) r in
    f ∙ time_walk (adv 0 l) x t y bad s z d k e refl ∙ ap (λ (p : ℕ). No (BadTime p)) (first_byte l)
