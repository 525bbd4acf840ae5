-- The bytes of a number or a time value: how it begins, and that all are ASCII. Assumes nothing.
use Prim.Native.Nat.{ℕ, suc, ◌≤◌}
use mathlib.Core.Path.{◌≡◌, refl}
use mathlib.Core.Bool.{Bool, true, ◌&&◌}
use mathlib.Core.List.{List, [], ◌∷◌, ◌++◌}
use native.Mathlib.Omega.{arith}
use lib.Dec.{leb}
use lib.IntN.{ℤ}
use borrow.Author.Tests.{leb-true}
use Rattle.rules.specs.Rfc3629.{In}
use Rattle.rules.proofs.Characters.{Each, all_none, all_more, each_join}
use Rattle.meaning.specs.declared.Number as N
use Rattle.meaning.specs.declared.Date as D
use Rattle.meaning.specs.declared.Time as T
use Rattle.meaning.specs.Letters.{letters, ch}
use Rattle.meaning.specs.Meaning.{Meaning}
use Rattle.grammar.specs.Characters.{Digit, Hexdig, Digits, Decimal}
use Rattle.grammar.specs.Numbers.{Sign, Int, Frac0, Frac1, E, Exp, Dec, X, Unsigned, Number}
use Rattle.grammar.specs.Times.{Fraction, TimeSecfrac, TimeHour, TimeMinute, LocalTimeText, LocalDateText, Separator, Zulu, PlusMinus, TimeOffset, TimeValue}
use Rattle.machine.proofs.Numeric.SoundTime.{and_both}
use Rattle.machine.proofs.Numeric.Items.{NumericItem}

-- ---- the first byte

pub data Lead : ℕ → Type 0 where
  digit : {b : ℕ} → In (ch "0") (ch "9") b → Lead b
  plus : Lead (ch "+")
  minus : Lead (ch "-")
  point : Lead (ch ".")
  n_letter : Lead (ch "N")
  i_letter : Lead (ch "I")

pub data Begins : List ℕ → Type 0 where
  begins : {b : ℕ} {a : List ℕ} → Lead b → Begins (b ∷ a)

pub begins_more : {a : List ℕ} → Begins a → (c : List ℕ) → Begins (a ++ c)
begins_more (Begins.begins l) c = Begins.begins l

digits_begin : {n v w : ℕ} {a : List ℕ} → Decimal (suc n) v a w → Begins a
digits_begin (Digits.next (Digit.digit i) d) = Begins.begins (Lead.digit i)

nonzero_lead : (b : ℕ) → In (ch "1") (ch "9") b → Lead b
nonzero_lead b i = Lead.digit {b = b} (omega arith)

int_begins : {a : List ℕ} {v : ℕ} → Int a v → Begins a
int_begins Int.zero_digit = Begins.begins (Lead.digit {b = ch "0"} (omega arith))
int_begins (Int.positive {b = b} i d) = Begins.begins (nonzero_lead b i)

dec_begins : {a : List ℕ} {v up dn : ℕ} → Dec a v up dn → Begins a
dec_begins (Dec.whole i f e) = begins_more (int_begins i) _
dec_begins (Dec.part (Frac1.given d) e) = Begins.begins Lead.point

unsigned_begins : {k : Bool} {g : Bool} {a : List ℕ} {n : N.Number} → Unsigned k g a n → Begins a
unsigned_begins Unsigned.nan = Begins.begins Lead.n_letter
unsigned_begins Unsigned.inf = Begins.begins Lead.i_letter
unsigned_begins (Unsigned.hex x d l f) = Begins.begins (Lead.digit {b = ch "0"} (omega arith))
unsigned_begins (Unsigned.dec d f) = dec_begins d

pub number_begins : {k : Bool} {a : List ℕ} {n : N.Number} → Number k a n → Begins a
number_begins (Number.number Sign.unsigned u) = unsigned_begins u
number_begins (Number.number Sign.plus u) = Begins.begins Lead.plus
number_begins (Number.number Sign.minus u) = Begins.begins Lead.minus

date_begins : {k : Bool} {a : List ℕ} {d : D.Date} → LocalDateText k a d → Begins a
date_begins (LocalDateText.local_date y m d x) = begins_more (digits_begin y) _

clock_begins : {k : Bool} {a : List ℕ} {n : ℕ} → LocalTimeText k a n → Begins a
clock_begins (LocalTimeText.local_time (TimeHour.hour h l) m s f) = begins_more (digits_begin h) _

pub time_begins : {k : Bool} {a : List ℕ} {t : T.Time} → TimeValue k a t → Begins a
time_begins (TimeValue.local_date d) = date_begins d
time_begins (TimeValue.local_time c) = clock_begins c
time_begins (TimeValue.local_date_time d x c) = begins_more (date_begins d) _
time_begins (TimeValue.offset_date_time d x c o) = begins_more (date_begins d) _

pub numeric_begins : {a : List ℕ} {m : Meaning} → NumericItem true a m → Begins a
numeric_begins (NumericItem.number n) = number_begins n
numeric_begins (NumericItem.time_value t) = time_begins t

-- ---- each byte

abbrev pub Plain : List ℕ → Type 0
Plain a = Each (In 0 0x7F) a

-- as a test that computes
plain : List ℕ → Bool
plain [] = true
plain (b ∷ a) = leb b 0x7F && plain a

plain_byte_lem : (b : ℕ) → b ≤ 0x7F → In 0 0x7F b
plain_byte_lem b l = omega arith

plain_is : (a : List ℕ) → plain a ≡ true → Plain a
unfolding plain
plain_is [] e = all_none
plain_is (b ∷ a) e = let k = and_both (leb b 0x7F) (plain a) e in all_more (plain_byte_lem b (leb-true b 0x7F k.0)) (plain_is a k.1)

plain_digit : {b x : ℕ} → Digit b x → In 0 0x7F b
plain_digit (Digit.digit i) = omega arith

plain_hex : {b x : ℕ} → Hexdig b x → In 0 0x7F b
plain_hex (Hexdig.decimal i) = omega arith
plain_hex (Hexdig.upper i) = omega arith
plain_hex (Hexdig.lower i) = omega arith

module _ {D : ℕ → ℕ → Type 0} {base : ℕ} (f : (b x : ℕ) → D b x → In 0 0x7F b) where
  digits_plain : {n v w : ℕ} {a : List ℕ} → Digits D base n v a w → Plain a
  digits_plain Digits.over = all_none
  digits_plain (Digits.next d r) = all_more (f _ _ d) (digits_plain r)

decimal_plain : {n v w : ℕ} {a : List ℕ} → Decimal n v a w → Plain a
decimal_plain d = digits_plain (λ b x. plain_digit) d

sign_plain : {s : List ℕ} {g : Bool} → Sign s g → Plain s
unfolding plain
sign_plain Sign.unsigned = all_none
sign_plain Sign.plus = plain_is (letters "+") refl
sign_plain Sign.minus = plain_is (letters "-") refl

int_plain : {a : List ℕ} {v : ℕ} → Int a v → Plain a
unfolding plain
int_plain Int.zero_digit = plain_is (letters "0") refl
int_plain (Int.positive {b = b} i d) = all_more (plain_byte_lem b (omega arith)) (decimal_plain d)

frac0_plain : {v w n : ℕ} {a : List ℕ} → Frac0 v a w n → Plain a
frac0_plain Frac0.absent = all_none
frac0_plain (Frac0.given d) = all_more (plain_byte_lem (ch ".") (omega arith)) (decimal_plain d)

frac1_plain : {w n : ℕ} {a : List ℕ} → Frac1 a w n → Plain a
frac1_plain (Frac1.given d) = all_more (plain_byte_lem (ch ".") (omega arith)) (decimal_plain d)

e_plain : {b : ℕ} → E b → In 0 0x7F b
e_plain E.small = plain_byte_lem (ch "e") (omega arith)
e_plain E.capital = plain_byte_lem (ch "E") (omega arith)

x_plain : {b : ℕ} → X b → In 0 0x7F b
x_plain X.small = plain_byte_lem (ch "x") (omega arith)
x_plain X.capital = plain_byte_lem (ch "X") (omega arith)

exp_plain : {up dn : ℕ} {a : List ℕ} → Exp a up dn → Plain a
exp_plain Exp.absent = all_none
exp_plain (Exp.given e s d) = all_more (e_plain e) (each_join (sign_plain s) (decimal_plain d))

dec_plain : {a : List ℕ} {v up dn : ℕ} → Dec a v up dn → Plain a
dec_plain (Dec.whole i f e) = each_join (int_plain i) (each_join (frac0_plain f) (exp_plain e))
dec_plain (Dec.part f e) = each_join (frac1_plain f) (exp_plain e)

unsigned_plain : {g : Bool} {a : List ℕ} {n : N.Number} → Unsigned true g a n → Plain a
unfolding plain
unsigned_plain Unsigned.nan = plain_is (letters "NaN") refl
unsigned_plain Unsigned.inf = plain_is (letters "Infinity") refl
unsigned_plain (Unsigned.hex x d l f) = all_more (plain_byte_lem (ch "0") (omega arith)) (all_more (x_plain x) (digits_plain (λ b x. plain_hex) d))
unsigned_plain (Unsigned.dec d f) = dec_plain d

number_plain : {a : List ℕ} {n : N.Number} → Number true a n → Plain a
number_plain (Number.number s u) = each_join (sign_plain s) (unsigned_plain u)

fraction_plain : {n v w : ℕ} {a : List ℕ} → Fraction n v a w → Plain a
fraction_plain Fraction.over = all_none
fraction_plain (Fraction.counts d r) = all_more (plain_digit d) (fraction_plain r)
fraction_plain (Fraction.cut d r) = all_more (plain_digit d) (fraction_plain r)

secfrac_plain : {a : List ℕ} {n : ℕ} → TimeSecfrac a n → Plain a
secfrac_plain TimeSecfrac.absent = all_none
secfrac_plain (TimeSecfrac.given f) = all_more (plain_byte_lem (ch ".") (omega arith)) (fraction_plain f)

hour_plain : {a : List ℕ} {h : ℕ} → TimeHour true a h → Plain a
hour_plain (TimeHour.hour d l) = decimal_plain d

minute_plain : {a : List ℕ} {m : ℕ} → TimeMinute true a m → Plain a
minute_plain (TimeMinute.sixtieth d l) = decimal_plain d

colon : In 0 0x7F (ch ":")
colon = plain_byte_lem (ch ":") (omega arith)

hyphen : In 0 0x7F (ch "-")
hyphen = plain_byte_lem (ch "-") (omega arith)

clock_plain : {a : List ℕ} {n : ℕ} → LocalTimeText true a n → Plain a
clock_plain (LocalTimeText.local_time h m s f) = each_join (hour_plain h) (all_more colon
    (each_join (minute_plain m) (all_more colon (each_join (minute_plain s) (secfrac_plain f)))))

date_plain : {a : List ℕ} {d : D.Date} → LocalDateText true a d → Plain a
date_plain (LocalDateText.local_date y m d x) = each_join (decimal_plain y) (all_more hyphen (each_join (decimal_plain m) (all_more hyphen (decimal_plain d))))

separator_plain : {b : ℕ} → Separator b → In 0 0x7F b
separator_plain Separator.letter = plain_byte_lem (ch "T") (omega arith)
separator_plain Separator.small_letter = plain_byte_lem (ch "t") (omega arith)
separator_plain Separator.space = plain_byte_lem (ch " ") (omega arith)

zulu_plain : {b : ℕ} → Zulu b → In 0 0x7F b
zulu_plain Zulu.letter = plain_byte_lem (ch "Z") (omega arith)
zulu_plain Zulu.small_letter = plain_byte_lem (ch "z") (omega arith)

plus_minus_plain : {b : ℕ} {g : Bool} → PlusMinus b g → In 0 0x7F b
plus_minus_plain PlusMinus.plus = plain_byte_lem (ch "+") (omega arith)
plus_minus_plain PlusMinus.minus = hyphen

offset_plain : {a : List ℕ} {o : ℤ} → TimeOffset true a o → Plain a
offset_plain (TimeOffset.zulu z) = all_more (zulu_plain z) all_none
offset_plain (TimeOffset.numoffset p h m) = all_more (plus_minus_plain p) (each_join (hour_plain h) (all_more colon (minute_plain m)))

time_plain : {a : List ℕ} {t : T.Time} → TimeValue true a t → Plain a
time_plain (TimeValue.local_date d) = date_plain d
time_plain (TimeValue.local_time c) = clock_plain c
time_plain (TimeValue.local_date_time d x c) = each_join (date_plain d) (all_more (separator_plain x) (clock_plain c))
time_plain (TimeValue.offset_date_time d x c o) = each_join (date_plain d) (all_more (separator_plain x) (each_join (clock_plain c) (offset_plain o)))

pub numeric_plain : {a : List ℕ} {m : Meaning} → NumericItem true a m → Plain a
numeric_plain (NumericItem.number n) = number_plain n
numeric_plain (NumericItem.time_value t) = time_plain t
