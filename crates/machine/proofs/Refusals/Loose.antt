-- What the grammar derives with its checks, it derives without. Assumes nothing.
use Prim.Native.Nat.{ℕ}
use mathlib.Core.Bool.{Bool, true, false}
use mathlib.Core.List.{List}
use Rattle.meaning.specs.declared.Number as N
use Rattle.meaning.specs.declared.Date as D
use Rattle.meaning.specs.declared.Time as T
use Rattle.meaning.specs.Meaning.{Meaning}
use Rattle.meaning.specs.Limits.{depth_limit}
use Rattle.grammar.specs.Checks.{Room}
use Rattle.grammar.specs.Characters.{Among}
use Rattle.grammar.specs.Numbers.{Finite, Unsigned, Number}
use Rattle.grammar.specs.Times.{TimeHour, TimeMinute, LocalTimeText, LocalDateText, TimeOffset, TimeValue}
use Rattle.grammar.specs.Strings.{Quote, Chars, Quoted, Escape, unescaped, StringPart, Concat, String}
use Rattle.grammar.specs.Keys.{Key}
use Rattle.grammar.specs.Values.{Value, Rest, After, Item}
use lib.IntN.{ℤ}

loose_finite : {g : Bool} {m up dn : ℕ} {w : N.Number} → Finite true g m up dn w → Finite false g m up dn w
loose_finite (Finite.nought e) = Finite.nought e
loose_finite (Finite.whole e p c n) = Finite.whole e p tt tt
loose_finite (Finite.part e p c n) = Finite.part e p tt tt

loose_unsigned : {g : Bool} {a : List ℕ} {w : N.Number} → Unsigned true g a w → Unsigned false g a w
loose_unsigned Unsigned.nan = Unsigned.nan
loose_unsigned Unsigned.inf = Unsigned.inf
loose_unsigned (Unsigned.hex x y l h) = Unsigned.hex x y tt (loose_finite h)
loose_unsigned (Unsigned.dec d h) = Unsigned.dec d (loose_finite h)

loose_number : {a : List ℕ} {w : N.Number} → Number true a w → Number false a w
loose_number (Number.number s u) = Number.number s (loose_unsigned u)

loose_hour : {a : List ℕ} {h : ℕ} → TimeHour true a h → TimeHour false a h
loose_hour (TimeHour.hour d l) = TimeHour.hour d tt

loose_minute : {a : List ℕ} {h : ℕ} → TimeMinute true a h → TimeMinute false a h
loose_minute (TimeMinute.sixtieth d l) = TimeMinute.sixtieth d tt

loose_clock : {a : List ℕ} {n : ℕ} → LocalTimeText true a n → LocalTimeText false a n
loose_clock (LocalTimeText.local_time h m s f) = LocalTimeText.local_time (loose_hour h) (loose_minute m) (loose_minute s) f

loose_date : {a : List ℕ} {d : D.Date} → LocalDateText true a d → LocalDateText false a d
loose_date (LocalDateText.local_date y m d x) = LocalDateText.local_date y m d tt

loose_offset : {a : List ℕ} {o : ℤ} → TimeOffset true a o → TimeOffset false a o
loose_offset (TimeOffset.zulu z) = TimeOffset.zulu z
loose_offset (TimeOffset.numoffset p h m) = TimeOffset.numoffset p (loose_hour h) (loose_minute m)

loose_time : {a : List ℕ} {t : T.Time} → TimeValue true a t → TimeValue false a t
loose_time (TimeValue.local_date d) = TimeValue.local_date (loose_date d)
loose_time (TimeValue.local_time c) = TimeValue.local_time (loose_clock c)
loose_time (TimeValue.local_date_time d x c) = TimeValue.local_date_time (loose_date d) x (loose_clock c)
loose_time (TimeValue.offset_date_time d x c o) = TimeValue.offset_date_time (loose_date d) x (loose_clock c) (loose_offset o)

loose_escape : {e v : List ℕ} → Escape true e v → Escape false e v
loose_escape (Escape.short x) = Escape.short x
loose_escape (Escape.unit x s) = Escape.unit x tt
loose_escape (Escape.pair x i y j) = Escape.pair x i y j
loose_escape (Escape.braced x s) = Escape.braced x tt

loose_chars : {q : Quote} {a u : List ℕ} → Chars (Among unescaped) (Escape true) q a u → Chars (Among unescaped) (Escape false) q a u
loose_chars Chars.none = Chars.none
loose_chars (Chars.plain x y) = Chars.plain x (loose_chars y)
loose_chars (Chars.escaped x y) = Chars.escaped (loose_escape x) (loose_chars y)
loose_chars (Chars.other_quote y) = Chars.other_quote (loose_chars y)

loose_part : {a u : List ℕ} → StringPart true a u → StringPart false a u
loose_part (StringPart.one_line (Quoted.quoted q x)) = StringPart.one_line (Quoted.quoted q (loose_chars x))
loose_part (StringPart.multiline q x n) = StringPart.multiline q x n
loose_part (StringPart.trimmed q n x) = StringPart.trimmed q n x

pub loose_string : {a u : List ℕ} → String true a u → String false a u
loose_string (Concat.part x) = Concat.part (loose_part x)
loose_string (Concat.plus x v w y) = Concat.plus (loose_part x) v w (loose_string y)

pub loose_key : {a u : List ℕ} → Key true a u → Key false a u
loose_key (Key.string x) = Key.string (loose_string x)
loose_key (Key.identifier x) = Key.identifier x

-- without checks the room does not matter: here it is always the same
pub loose_value : {d : ℕ} {a : List ℕ} {m : Meaning} → Value true d a m → Value false depth_limit a m
loose_value x =
    elim x as (λ d a m _. Value false depth_limit a m) (λ d x a y _. Rest false depth_limit x a y) (λ d x a y _. After false depth_limit x a y)
    (λ d x a y _. Item false depth_limit x a y) [
      | Value.null_word ↦ Value.null_word
      | Value.true_word ↦ Value.true_word
      | Value.false_word ↦ Value.false_word
      | Value.number y ↦ Value.number (loose_number y)
      | Value.string y ↦ Value.string (loose_string y)
      | Value.binary y ↦ Value.binary y
      | Value.time_value y ↦ Value.time_value (loose_time y)
      | Value.array y (z → ih) ↦ Value.array Room.stays ih
      | Value.object y (z → ih) ↦ Value.object Room.stays ih
      | Rest.close y c ↦ Rest.close y c
      | Rest.item l (i → ih) (t → jh) ↦ Rest.item l ih jh
      | After.end y c ↦ After.end y c
      | After.comma l (t → ih) ↦ After.comma l ih
      | Item.element (v → ih) ↦ Item.element ih
      | Item.member y l j (t → ih) ↦ Item.member (loose_key y) l j ih
    ]
