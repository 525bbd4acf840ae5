-- What a number or a time value does at a byte that it does not take is what it does at the text's end. Assumes nothing.
use Prim.Native.Nat.{ℕ, zero, suc, ◌*◌, ◌^◌}
use mathlib.Core.Path.{◌≡◌, refl, sym, ◌∙◌, subst}
use mathlib.Core.Bool.{Bool, true, false, cond}
use mathlib.Core.List.{List, [], ◌∷◌, ◌++◌}
use native.Mathlib.Omega.{arith}
use lib.Dec.{eqb}
use Rattle.meaning.specs.declared.Date as D
use Rattle.meaning.specs.declared.Refusal.{Refusal}
use Rattle.meaning.specs.declared.Refusal.TheVariants.{NotGrammar}
use Rattle.meaning.specs.Letters.{letters, ch}
use Rattle.meaning.specs.Meaning.{Meaning}
use Rattle.grammar.specs.Comments.{Blank}
use Rattle.machine.specs.Scan.{takes, stops, breaks, over}
use Rattle.machine.specs.Numeric
use Rattle.machine.specs.Numeric.{St, Res, begin, sign, word, nought, int, point, frac, exp, exp_sign, exp_digits, hex_mark, hex, both, field, spaced}
use Rattle.machine.specs.Numeric.{sec_point, nanos, zulu, Len, d1, d2, d3, d4, When, alone, on, Slot, month, day, hour, minute, second, offset_hour}
use Rattle.machine.specs.Numeric.{offset_minute, scan, settle, scaled, dated, date_done, Dg, digit, other, Num, digit_n}
use Rattle.machine.specs.Numeric.{point_n, e_n, x_n, colon_n, minus_n, other_n, Sec, digit_s, point_s, zulu_s, plus_s, minus_s, other_s, Fst, nought_f, digit_f}
use Rattle.machine.specs.Numeric.{plus_f}
use Rattle.machine.specs.Numeric.{minus_f, point_f, n_f, i_f, other_f}
use Rattle.machine.proofs.Runs as Runs
use Rattle.machine.proofs.Runs.{GoesTo, HaltTo, Steps, adv, taken_once, goes_end, end_out_lem}
use Rattle.machine.proofs.Layouts.{adv_join}
use Rattle.machine.proofs.Numeric.Complete.{settle_hex}
use Rattle.machine.proofs.Refusals.Items.{Outcome}

abbrev stuck_at : ℕ → Res
stuck_at p = breaks (NotGrammar p)

-- what digits do as a number, and a full field, at the end
abbrev number_end : ℕ → ℕ → Len → Bool → ℕ → Res
number_end p q k z v = Numeric.as_number p q k z v over other_n

abbrev full_end : ℕ → ℕ → Slot → ℕ → Res
full_end p q l v = Numeric.on_full p q l v over

abbrev pub Takes : Res → Type 0
Takes (takes s) = Unit {0}
Takes (stops m) = ⊥
Takes (breaks r) = ⊥

-- the byte is taken, or does the same as the end; or the end itself would be taken
data Or : Res → Res → Type 0 where
  taken : {s : St} {e : Res} → Or (takes s) e
  same : {e : Res} → Or e e
  none : {s : St} {o : Res} → Or o (takes s)

only_or : (p c : ℕ) (s : St) (b : ℕ) → Or (Numeric.only p c s b) (Numeric.only p c s over)
only_or p c s b = go (eqb b c) (eqb over c)
  where
    go : (t u : Bool) → Or (cond t (takes s) (breaks (NotGrammar p))) (cond u (takes s) (breaks (NotGrammar p)))
    go true u = Or.taken
    go false true = Or.none
    go false false = Or.same

begin_or : (p b : ℕ) (c : Fst) → Or (Numeric.on_begin p b c) (stuck_at p)
begin_or p b nought_f = Or.taken
begin_or p b digit_f = Or.taken
begin_or p b point_f = Or.taken
begin_or p b n_f = Or.taken
begin_or p b i_f = Or.taken
begin_or p b plus_f = Or.taken
begin_or p b minus_f = Or.taken
begin_or p b other_f = Or.same

sign_or : (p q : ℕ) (g : Bool) (b : ℕ) (c : Fst) → Or (Numeric.on_sign p q g b c) (stuck_at p)
sign_or p q g b nought_f = Or.taken
sign_or p q g b digit_f = Or.taken
sign_or p q g b point_f = Or.taken
sign_or p q g b n_f = Or.taken
sign_or p q g b i_f = Or.taken
sign_or p q g b plus_f = Or.same
sign_or p q g b minus_f = Or.same
sign_or p q g b other_f = Or.same

nought_or : (q : ℕ) (g : Bool) (c : Num) → Or (Numeric.on_nought q g c) (settle q g 0 0 0)
nought_or q g point_n = Or.taken
nought_or q g e_n = Or.taken
nought_or q g x_n = Or.taken
nought_or q g digit_n = Or.same
nought_or q g colon_n = Or.same
nought_or q g minus_n = Or.same
nought_or q g other_n = Or.same

int_or : (q : ℕ) (g : Bool) (m b : ℕ) (c : Num) → Or (Numeric.on_int q g m b c) (settle q g m 0 0)
int_or q g m b digit_n = Or.taken
int_or q g m b point_n = Or.taken
int_or q g m b e_n = Or.taken
int_or q g m b x_n = Or.same
int_or q g m b colon_n = Or.same
int_or q g m b minus_n = Or.same
int_or q g m b other_n = Or.same

frac_or : (q : ℕ) (g : Bool) (m f b : ℕ) (c : Num) → Or (Numeric.on_frac q g m f b c) (settle q g m 0 f)
frac_or q g m f b digit_n = Or.taken
frac_or q g m f b e_n = Or.taken
frac_or q g m f b point_n = Or.same
frac_or q g m f b x_n = Or.same
frac_or q g m f b colon_n = Or.same
frac_or q g m f b minus_n = Or.same
frac_or q g m f b other_n = Or.same

point_or : (p q : ℕ) (g : Bool) (b : ℕ) (c : Dg) → Or (Numeric.on_point p q g b c) (stuck_at p)
point_or p q g b digit = Or.taken
point_or p q g b other = Or.same

exp_or : (p q : ℕ) (g : Bool) (m f b : ℕ) (c : Numeric.ExpB) → Or (Numeric.on_exp p q g m f b c) (stuck_at p)
exp_or p q g m f b Numeric.digit_e = Or.taken
exp_or p q g m f b Numeric.plus_e = Or.taken
exp_or p q g m f b Numeric.minus_e = Or.taken
exp_or p q g m f b Numeric.other_e = Or.same

exp_sign_or : (p q : ℕ) (g : Bool) (m f : ℕ) (s : Bool) (b : ℕ) (c : Dg) → Or (Numeric.on_exp_sign p q g m f s b c) (stuck_at p)
exp_sign_or p q g m f s b digit = Or.taken
exp_sign_or p q g m f s b other = Or.same

exp_digits_or : (q : ℕ) (g : Bool) (m f : ℕ) (s : Bool) (e b : ℕ) (c : Dg) → Or (Numeric.on_exp_digits q g m f s e b c) (scaled q g m f s e)
exp_digits_or q g m f s e b digit = Or.taken
exp_digits_or q g m f s e b other = Or.same

mark_or : (p q : ℕ) (g : Bool) (c : Numeric.HexB) → Or (Numeric.on_hex_mark p q g c) (stuck_at p)
mark_or p q g (Numeric.value d) = Or.taken
mark_or p q g Numeric.no_hex = Or.same

hex_or : (q : ℕ) (g : Bool) (v : ℕ) (c : Numeric.HexB) → Or (Numeric.on_hex q g v c) (settle_hex q g v)
hex_or q g v (Numeric.value d) = Or.taken
hex_or q g v Numeric.no_hex = Or.same

as_number_or : (p q : ℕ) (k : Len) (z : Bool) (v b : ℕ) (c : Num) → Or (Numeric.as_number p q k z v b c) (number_end p q k z v)
as_number_or p q k false v b c = int_or q false v b c
as_number_or p q d1 true v b c = nought_or q false c
as_number_or p q d2 true v b c = Or.same
as_number_or p q d3 true v b c = Or.same
as_number_or p q d4 true v b c = Or.same

digit_or : (p q : ℕ) (k : Len) (z : Bool) (v b : ℕ) → Or (Numeric.on_digit p q k z v b) (number_end p q k z v)
digit_or p q d1 z v b = Or.taken
digit_or p q d2 z v b = Or.taken
digit_or p q d3 z v b = Or.taken
digit_or p q d4 z v b = as_number_or p q d4 z v b digit_n

colon_or : (p q : ℕ) (k : Len) (z : Bool) (v b : ℕ) → Or (Numeric.on_colon p q k z v b) (number_end p q k z v)
colon_or p q d1 z v b = as_number_or p q d1 z v b colon_n
colon_or p q d2 z v b = Or.taken
colon_or p q d3 z v b = as_number_or p q d3 z v b colon_n
colon_or p q d4 z v b = as_number_or p q d4 z v b colon_n

minus_or : (p q : ℕ) (k : Len) (z : Bool) (v b : ℕ) → Or (Numeric.on_minus p q k z v b) (number_end p q k z v)
minus_or p q d1 z v b = as_number_or p q d1 z v b minus_n
minus_or p q d2 z v b = as_number_or p q d2 z v b minus_n
minus_or p q d3 z v b = as_number_or p q d3 z v b minus_n
minus_or p q d4 z v b = Or.taken

both_or : (p q : ℕ) (k : Len) (z : Bool) (v b : ℕ) (c : Num) → Or (Numeric.on_both p q k z v b c) (number_end p q k z v)
both_or p q k z v b digit_n = digit_or p q k z v b
both_or p q k z v b colon_n = colon_or p q k z v b
both_or p q k z v b minus_n = minus_or p q k z v b
both_or p q k z v b point_n = as_number_or p q k z v b point_n
both_or p q k z v b e_n = as_number_or p q k z v b e_n
both_or p q k z v b x_n = as_number_or p q k z v b x_n
both_or p q k z v b other_n = as_number_or p q k z v b other_n

day_or : (q : ℕ) (d : D.Date) (c : Numeric.Day) → Or (Numeric.on_day q d c) (date_done q d)
day_or q d Numeric.letter_d = Or.taken
day_or q d Numeric.space_d = Or.taken
day_or q d Numeric.other_d = Or.same

zone_or : (q : ℕ) (w : When) (h m s n : ℕ) (c : Sec) → Or (Numeric.on_zone q w h m s n c) (Numeric.on_zone q w h m s n other_s)
zone_or q alone h m s n c = Or.same
zone_or q (on d) h m s n zulu_s = Or.taken
zone_or q (on d) h m s n plus_s = Or.taken
zone_or q (on d) h m s n minus_s = Or.taken
zone_or q (on d) h m s n digit_s = Or.same
zone_or q (on d) h m s n point_s = Or.same
zone_or q (on d) h m s n other_s = Or.same

sec_or : (q : ℕ) (w : When) (h m s : ℕ) (c : Sec) → Or (Numeric.on_sec q w h m s c) (Numeric.on_zone q w h m s 0 other_s)
sec_or q w h m s point_s = Or.taken
sec_or q w h m s digit_s = zone_or q w h m s 0 digit_s
sec_or q w h m s zulu_s = zone_or q w h m s 0 zulu_s
sec_or q w h m s plus_s = zone_or q w h m s 0 plus_s
sec_or q w h m s minus_s = zone_or q w h m s 0 minus_s
sec_or q w h m s other_s = zone_or q w h m s 0 other_s

nanos_or : (q : ℕ) (w : When) (h m s k v b : ℕ) (c : Sec) → Or (Numeric.on_nanos q w h m s k v b c) (Numeric.on_zone q w h m s (v * 10 ^ k) other_s)
nanos_or q w h m s zero v b digit_s = Or.taken
nanos_or q w h m s (suc k) v b digit_s = Or.taken
nanos_or q w h m s k v b point_s = zone_or q w h m s (v * 10 ^ k) point_s
nanos_or q w h m s k v b zulu_s = zone_or q w h m s (v * 10 ^ k) zulu_s
nanos_or q w h m s k v b plus_s = zone_or q w h m s (v * 10 ^ k) plus_s
nanos_or q w h m s k v b minus_s = zone_or q w h m s (v * 10 ^ k) minus_s
nanos_or q w h m s k v b other_s = zone_or q w h m s (v * 10 ^ k) other_s

full_or : (p q : ℕ) (l : Slot) (v b : ℕ) → Or (Numeric.on_full p q l v b) (full_end p q l v)
full_or p q (month y) v b = only_or p (ch "-") (field q (day y v) 2 0) b
full_or p q (day y m) v b = day_or q (dated y m v) (Numeric.day_of b)
full_or p q (hour d) v b = only_or p (ch ":") (field q (minute (on d) v) 2 0) b
full_or p q (minute w h) v b = only_or p (ch ":") (field q (second w h v) 2 0) b
full_or p q (second w h m) v b = sec_or q w h m v (Numeric.sec_of b)
full_or p q (offset_hour d h m s n g) v b = only_or p (ch ":") (field q (offset_minute d h m s n g v) 2 0) b
full_or p q (offset_minute d h m s n g i) v b = Or.same

field_or : (p q : ℕ) (l : Slot) (n v b : ℕ) (c : Dg) → Or (Numeric.on_field p q l n v b c) (stuck_at p)
field_or p q l n v b digit = Or.taken
field_or p q l n v b other = Or.same

spaced_or : (q : ℕ) (d : D.Date) (b : ℕ) (c : Dg) → Or (Numeric.on_spaced q d b c) (date_done q d)
spaced_or q d b digit = Or.taken
spaced_or q d b other = Or.same

sec_point_or : (p q : ℕ) (w : When) (h m s b : ℕ) (c : Dg) → Or (Numeric.on_sec_point p q w h m s b c) (stuck_at p)
sec_point_or p q w h m s b digit = Or.taken
sec_point_or p q w h m s b other = Or.same

taken_or_same : (p : ℕ) (s : St) (b : ℕ) → Or (scan p s b) (scan p s over)
taken_or_same p begin b = begin_or p b (Numeric.fst_of b)
taken_or_same p (sign q g) b = sign_or p q g b (Numeric.fst_of b)
taken_or_same p (word [] n) b = Or.same
taken_or_same p (word (c ∷ a) n) b = only_or p c (word a n) b
taken_or_same p (nought q g) b = nought_or q g (Numeric.num_of b)
taken_or_same p (int q g m) b = int_or q g m b (Numeric.num_of b)
taken_or_same p (point q g) b = point_or p q g b (Numeric.dg_of b)
taken_or_same p (frac q g m f) b = frac_or q g m f b (Numeric.num_of b)
taken_or_same p (exp q g m f) b = exp_or p q g m f b (Numeric.exp_of b)
taken_or_same p (exp_sign q g m f s) b = exp_sign_or p q g m f s b (Numeric.dg_of b)
taken_or_same p (exp_digits q g m f s e) b = exp_digits_or q g m f s e b (Numeric.dg_of b)
taken_or_same p (hex_mark q g) b = mark_or p q g (Numeric.hex_of b)
taken_or_same p (hex q g v) b = hex_or q g v (Numeric.hex_of b)
taken_or_same p (both q k z v) b = both_or p q k z v b (Numeric.num_of b)
taken_or_same p (field q l zero v) b = full_or p q l v b
taken_or_same p (field q l (suc n) v) b = field_or p q l n v b (Numeric.dg_of b)
taken_or_same p (spaced q d) b = spaced_or q d b (Numeric.dg_of b)
taken_or_same p (sec_point q w h m s) b = sec_point_or p q w h m s b (Numeric.dg_of b)
taken_or_same p (nanos q w h m s k v) b = nanos_or q w h m s k v b (Numeric.sec_of b)
taken_or_same p (zulu q d h m s n) b = Or.same

-- ---- the outcome at a byte that is not taken

-- the bytes of a run in two
split_steps : (a : List ℕ) {c : List ℕ} {p : ℕ} {s s' : St} → Steps scan p s (a ++ c) s' → (t : St) × Steps scan p s a t × Steps scan (adv p a) t c s'
split_steps [] {s = s} x = (s, Steps.stay, x)
split_steps (b ∷ a) (Steps.eat x e) = let h = split_steps a x in (h.0, Steps.eat h.1 e, h.2)

-- what an item comes to at the end it comes to at every byte that it does not take
module _ (P : Meaning → Type 0) (R : Refusal → Type 0) where
  abbrev Q : Res → Type 0
  Q = Outcome P R

  pub no_takes : (o : Res) → Q o → Takes o → ⊥
  no_takes (takes s) h t = h
  no_takes (stops m) h t = t
  no_takes (breaks r) h t = t

  untaken_out : {o e : Res} → Or o e → Q e → (Takes o → ⊥) → Q o
  untaken_out Or.taken h n = absurd (n tt)
  untaken_out Or.same h n = h
  untaken_out Or.none h n = absurd h

  pub any_byte : {p : ℕ} {s s' : St} {a : List ℕ} → GoesTo scan Q Runs.EndsItem p s a → Steps scan p s a s' → (b : ℕ) → (Takes (scan (adv p a) s' b) → ⊥)
      → Q (scan (adv p a) s' b)
  any_byte {p} {s' = s'} {a = a} g x b n = untaken_out (taken_or_same (adv p a) s' b) (end_out_lem scan Runs.EndsItem.end (goes_end scan x g)) n

  -- behind a date and a space that is taken, what is no digit ends it
  spaced_out : {p b : ℕ} {s u : St} → HaltTo scan Q p s b → b ≡ ch " " → scan p s (ch " ") ≡ takes u → (c : ℕ) → Runs.NoDigit c → Q (scan (suc p) u c)
  spaced_out {p} {b} {s} (HaltTo.here h) e f c n = absurd (subst Q f (subst (λ (x : ℕ). Q (scan p s x)) e h))
  spaced_out {p} (HaltTo.spaced g k) e f c n = subst (λ (x : St). Q (scan (suc p) x c)) (taken_once scan (sym g ∙ f)) (k (suc p) c n)

  space_out : {p : ℕ} {s u : St} → GoesTo scan Q Runs.EndsItem p s [] → Steps scan p s (letters " ") u → (c : ℕ) → Runs.NoDigit c → Q (scan (suc p) u c)
  space_out (GoesTo.ends h) (Steps.eat Steps.stay e) c n = spaced_out (h (ch " ") (Runs.EndsItem.blank Blank.space)) refl e c n

  module _ {p : ℕ} {s u : St} {a : List ℕ} (g : GoesTo scan Q Runs.EndsItem p s a) (x : Steps scan p s (a ++ letters " ") u) where
    pub space_digitless : (c : ℕ) → Runs.NoDigit c → Q (scan (adv p (a ++ letters " ")) u c)
    space_digitless c n = let h = split_steps a x in rw (adv_join p a (letters " ")) (space_out (goes_end scan h.1 g) h.2 c n)

    pub after_space : (b : ℕ) → (Takes (scan (adv p (a ++ letters " ")) u b) → ⊥) → Q (scan (adv p (a ++ letters " ")) u b)
    after_space b n = let q = adv p (a ++ letters " ") in untaken_out (taken_or_same q u b) (space_digitless over (Runs.NoDigit.past (omega arith))) n
