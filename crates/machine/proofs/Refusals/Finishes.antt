-- From every state of a number or a time value, of a binary part and of an identifier some bytes finish one of the bare grammar. Assumes nothing.
use Prim.Native.Nat.{ℕ, zero, suc, ◌+◌, ◌*◌, ◌^◌}
use mathlib.Core.Path.{◌≡◌, refl}
use mathlib.Core.Bool.{Bool, true, false}
use mathlib.Core.Logic.{inl, inr}
use mathlib.Core.List.{List, [], ◌∷◌, ◌++◌, append-nil}
use native.Mathlib.Omega.{arith}
use lib.IntN.{pos}
use Rattle.meaning.specs.declared.Date as D
use Rattle.meaning.specs.declared.Time.TheVariants.{LocalDate, LocalTime, LocalDateTime, OffsetDateTime}
use Rattle.meaning.specs.Letters.{letters, ch}
use Rattle.meaning.specs.Clock.{time_of_day}
use Rattle.meaning.specs.Meaning.{Meaning}
use Rattle.grammar.specs.Characters.{Many, Digit, Hexdig, Digits, Decimal, Hexadecimal}
use Rattle.grammar.specs.Characters as G
use Rattle.grammar.specs.Numbers.{Finite, Sign, Int, Frac0, Exp, Dec, Unsigned, Number, raised, lowered}
use Rattle.grammar.specs.Times.{Fraction, TimeSecfrac, signed}
use Rattle.grammar.specs.Strings.{Quote, mark, Short, Chars}
use Rattle.grammar.specs.Binary.{BPart, BDirect, BValue, BEscape}
use Rattle.grammar.specs.Keys.{Identifier}
use Rattle.machine.specs.Numeric
use Rattle.machine.specs.Numeric.{St, begin, sign, word, nought, int, point, frac, exp, exp_sign, exp_digits, hex_mark, hex, both, field, spaced, sec_point}
use Rattle.machine.specs.Numeric.{nanos, zulu, d1, d2, d3, d4, When, alone, on, Slot, month, day, hour, minute, second, offset_hour, offset_minute, dated}
use Rattle.machine.specs.Binaries
use Rattle.machine.specs.Names
use Rattle.machine.proofs.Numeric.{NumericItem, Taken, NumericRest}
use Rattle.machine.proofs.Numeric.Value.{some_finite}
use Rattle.machine.proofs.Numeric.Sound.{Fin, Bare}
use Rattle.machine.proofs.Numeric.Sound as Sound
use Rattle.machine.proofs.Numeric.SoundTime.{FieldRest, Cont, EndRest, NanosRest, Second, Hour, Year, SlotRest}
use Rattle.machine.proofs.Binaries.{BinaryRest, TextTail, AfterPair}
use Rattle.machine.proofs.Names.{NameRest}

some_fin : (g : Bool) (m up dn : ℕ) → (w : Meaning) × Fin false g m up dn w
some_fin g m up dn = let x = some_finite g m up dn in (Meaning.number x.0, Fin.number x.1)

zero_digit : Digit (ch "0") 0
zero_digit = Digit.digit {b = ch "0"} (omega arith)

zeros : (n v : ℕ) → (ds : List ℕ) × (w : ℕ) × Decimal n v ds w
zeros zero v = ([], v, Digits.over)
zeros (suc n) v = let h = zeros n (10 * v + 0) in (ch "0" ∷ h.0, h.1, Digits.next zero_digit h.2)

-- a field, and what follows it
abbrev Finished : (List ℕ → Meaning → Type 0) → Type 0
Finished R = (a : List ℕ) × (w : Meaning) × R a w

field_ends : (n v : ℕ) (K : Cont) → ((x : ℕ) → Finished (K x)) → Finished (FieldRest n v K)
field_ends n v K f = let z = zeros n v in let k = f z.1 in (z.0 ++ k.0, k.1, (z.0, k.0, z.1, refl, z.2, k.2))

clock_ends : (c : When) (h m s n : ℕ) → (w : Meaning) × EndRest false c h m s n [] w
clock_ends alone h m s n = (Meaning.time (LocalTime (time_of_day h m s n)), (tt, refl, refl))
clock_ends (on d) h m s n = (Meaning.time (LocalDateTime d (time_of_day h m s n)), (tt, tt, inl (refl, refl)))

second_ends : (c : When) (h m s : ℕ) → Finished (Second false c h m s)
second_ends c h m s = let e = clock_ends c h m s 0 in ([], e.0, ([], [], 0, refl, TimeSecfrac.absent, e.1))

minute_ends : (c : When) (h m : ℕ) → Finished (SlotRest false (minute c h) m)
minute_ends c h m = let f = field_ends 2 0 (Second false c h m) (second_ends c h m) in (ch ":" ∷ f.0, f.1, (f.0, refl, f.2))

hour_ends : (c : When) (h : ℕ) → Finished (Hour false c h)
hour_ends c h = let f = field_ends 2 0 (SlotRest false (minute c h)) (minute_ends c h) in (ch ":" ∷ f.0, f.1, (f.0, refl, f.2))

day_ends : (y m d : ℕ) → Finished (SlotRest false (day y m) d)
day_ends y m d = ([], Meaning.time (LocalDate (dated y m d)), inl (tt, inl refl, refl))

month_ends : (y m : ℕ) → Finished (SlotRest false (month y) m)
month_ends y m = let f = field_ends 2 0 (SlotRest false (day y m)) (day_ends y m) in (ch "-" ∷ f.0, f.1, (f.0, refl, f.2))

year_ends : (y : ℕ) → Finished (Year false y)
year_ends y = let f = field_ends 2 0 (SlotRest false (month y)) (month_ends y) in (ch "-" ∷ f.0, f.1, (f.0, refl, f.2))

offset_ends : (d : D.Date) (h m s n : ℕ) (g : Bool) (i x : ℕ) → Finished (SlotRest false (offset_minute d h m s n g i) x)
offset_ends d h m s n g i x = ([], Meaning.time (OffsetDateTime d (time_of_day h m s n) (signed g (i * 60 + x))), (refl, tt, tt, tt, tt, refl))

slot_ends : (l : Slot) (x : ℕ) → Finished (SlotRest false l x)
slot_ends (month y) x = month_ends y x
slot_ends (day y m) x = day_ends y m x
slot_ends (hour d) x = hour_ends (on d) x
slot_ends (minute c h) x = minute_ends c h x
slot_ends (second c h m) x = second_ends c h m x
slot_ends (offset_hour d h m s n g) x =
    let f = field_ends 2 0 (SlotRest false (offset_minute d h m s n g x)) (offset_ends d h m s n g x) in
    (ch ":" ∷ f.0, f.1, (f.0, refl, f.2))
slot_ends (offset_minute d h m s n g i) x = offset_ends d h m s n g i x

int_ends : (g : Bool) (m : ℕ) → (w : Meaning) × Sound.IntRest false g m [] w
int_ends g m = let f = some_fin g m 0 0 in (f.0, Sound.int_of false g m [] f.0 (Sound.whole_none false g m f.0 f.1))

nought_ends : (g : Bool) → (w : Meaning) × Sound.NoughtRest false g [] w
nought_ends g = let f = some_fin g 0 0 0 in (f.0, inl (Sound.whole_none false g 0 f.0 f.1))

one_zero : (n : ℕ) → Decimal 1 0 (letters "0") 0
one_zero n = Digits.next zero_digit Digits.over

nanos_ends : (c : When) (h m s k v : ℕ) → Finished (NanosRest false c h m s k v)
nanos_ends c h m s k v = let e = clock_ends c h m s (v * 10 ^ k) in ([], e.0, ([], [], v * 10 ^ k, refl, Fraction.over, e.1))

bare_zero : (g : Bool) → (w : Meaning) × Bare false g (letters "0") w
bare_zero g = (_, Bare.number (Unsigned.dec (Dec.whole Int.zero_digit Frac0.absent Exp.absent) (Finite.nought refl)))

pub numeric_finish : (s : St) → Finished (NumericRest false s)
numeric_finish begin = (
  letters "0",
  _,
  Taken.item (NumericItem.number (Number.number Sign.unsigned
      (Unsigned.dec (Dec.whole Int.zero_digit Frac0.absent Exp.absent) (Finite.nought refl)))),
)
numeric_finish (sign q g) = let h = bare_zero g in (letters "0", h.0, h.1)
numeric_finish (word l n) = (l, Meaning.number n, (refl, refl))
numeric_finish (nought q g) = let h = nought_ends g in ([], h.0, h.1)
numeric_finish (int q g m) = let h = int_ends g m in ([], h.0, h.1)
numeric_finish (point q g) =
    let f = some_fin g (Numeric.dig 0 (ch "0")) 0 1 in
    (letters "0", f.0, Sound.point_digit false g (ch "0") [] f.0 (omega arith) (Sound.frac_none false g (Numeric.dig 0 (ch "0")) 1 f.0 f.1))
numeric_finish (frac q g m f) = let h = some_fin g m 0 f in ([], h.0, Sound.frac_none false g m f h.0 h.1)
numeric_finish (exp q g m f) = let h = some_fin g m 0 (f + 0) in (letters "0", h.0, ([], letters "0", false, refl, Sign.unsigned, (0, 0, one_zero 0, h.1)))
numeric_finish (exp_sign q g m f s) = let h = some_fin g m (raised s 0) (f + lowered s 0) in (letters "0", h.0, (0, 0, one_zero 0, h.1))
numeric_finish (exp_digits q g m f s e) = let h = some_fin g m (raised s e) (f + lowered s e) in ([], h.0, (e, 0, Digits.over, h.1))
numeric_finish (hex_mark q g) =
    let h = some_fin g 0 0 0 in (letters "0", h.0, (0, 0, Digits.next (Hexdig.decimal {b = ch "0"} (omega arith)) Digits.over, tt, h.1))
numeric_finish (hex q g v) = let h = some_fin g v 0 0 in ([], h.0, (v, 0, Digits.over, tt, h.1))
numeric_finish (both q k false v) = let h = int_ends false v in ([], h.0, inl h.1)
numeric_finish (both q d1 true v) = let h = nought_ends false in ([], h.0, inl h.1)
numeric_finish (both q d2 true v) = let h = field_ends 0 v (Hour false alone) (hour_ends alone) in (h.0, h.1, inr (inl h.2))
numeric_finish (both q d3 true v) = let h = field_ends 1 v (Year false) year_ends in (h.0, h.1, inr h.2)
numeric_finish (both q d4 true v) = let h = field_ends 0 v (Year false) year_ends in (h.0, h.1, inr h.2)
numeric_finish (field q l n v) = field_ends n v (SlotRest false l) (slot_ends l)
numeric_finish (spaced q d) = ([], Meaning.time (LocalDate d), inl (tt, refl, refl))
numeric_finish (sec_point q c h m s) = let e = nanos_ends c h m s 8 (Numeric.dig 0 (ch "0")) in (ch "0" ∷ e.0, e.1, (ch "0", e.0, refl, omega arith, e.2))
numeric_finish (nanos q c h m s k v) = nanos_ends c h m s k v
numeric_finish (zulu q d h m s n) = ([], Meaning.time (OffsetDateTime d (time_of_day h m s n) (pos 0)), (refl, tt, tt, refl))

-- ---- binary parts and identifiers

zero_hex : Hexdig (ch "0") 0
zero_hex = Hexdig.decimal {b = ch "0"} (omega arith)

two_zeros : Hexadecimal 2 (letters "00") 0
two_zeros = Digits.next zero_hex (Digits.next zero_hex Digits.over)

text_ends : (q : ℕ) (acc : List ℕ) (j : Quote) → q ≡ mark j → TextTail j acc (q ∷ []) acc
text_ends q acc j i = ([], [], rw i, Chars.none, append-nil acc)

pub binary_finish : (s : Binaries.St) → (a : List ℕ) × (v : List ℕ) × BinaryRest s a v
binary_finish Binaries.start = (letters "$", [], BValue.empty)
binary_finish Binaries.dollar = ([], [], BValue.empty)
binary_finish (Binaries.text q acc) = (q ∷ [], acc, text_ends q acc)
binary_finish (Binaries.esc q acc) =
    (ch "n" ∷ q ∷ [], acc ++ (0x0A ∷ []), λ j i. (letters "n", 0x0A ∷ [], q ∷ [], refl, BEscape.short Short.line_feed, text_ends q (acc ++ (0x0A ∷ [])) j i))
binary_finish (Binaries.hex q acc) =
    (letters "00" ++ (q ∷ []), acc ++ (0 ∷ []), λ j i. (letters "00", 0, q ∷ [], refl, two_zeros, text_ends q (acc ++ (0 ∷ [])) j i))
binary_finish (Binaries.hex_low q acc x) =
    (ch "0" ∷ q ∷ [], acc ++ ((16 * x + 0) ∷ []), λ j i. (ch "0", 0, q ∷ [], refl, zero_hex, text_ends q (acc ++ ((16 * x + 0) ∷ [])) j i))
binary_finish (Binaries.low acc x) =
    (letters "0", acc ++ ((16 * x + 0) ∷ []), (ch "0", 0, [], refl, zero_hex, ([], AfterPair.over, append-nil (acc ++ ((16 * x + 0) ∷ [])))))
binary_finish (Binaries.pairs acc) = ([], acc, ([], AfterPair.over, append-nil acc))
binary_finish (Binaries.dot acc) = (letters "00", acc ++ (0 ∷ []), (0 ∷ [], BDirect.part (BPart.last two_zeros), refl))
binary_finish (Binaries.done acc) = ([], acc, (refl, refl))

pub name_finish : (s : Names.St) → (a : List ℕ) × (v : List ℕ) × NameRest s a v
name_finish Names.start = (letters "a", letters "a", (Identifier.identifier (G.Ascii.byte {b = ch "a"} (inr (inl (omega arith)))) Many.none, refl))
name_finish (Names.name acc) = ([], acc, (Many.none, append-nil acc))
