-- Dates and times, and the fields that each means (docs/FORMAT.md, 6). Assumes nothing.
use Rattle.std.specs.Prelude.{ℕ, zero, suc, ◌+◌, ◌*◌, ◌≤◌, ◌^◌, Bool, true, false, List, [], ◌∷◌, ◌++◌, ℤ, pos, neg_ℤ}
use Rattle.rules.specs.Rfc3339 as Calendar
use Rattle.meaning.specs.declared.Date as D
use Rattle.meaning.specs.declared.Time as M
use Rattle.meaning.specs.declared.Time.TheVariants.{LocalDate, LocalTime, LocalDateTime, OffsetDateTime}
use Rattle.meaning.specs.Limits.{fraction_digits}
use Rattle.meaning.specs.Clock.{time_of_day}
use Rattle.meaning.specs.Letters.{ch}
use Rattle.grammar.specs.Checks.{Checked}
use Rattle.grammar.specs.Characters.{Digit, Decimal}

-- *DIGIT after the value v, of which n more count: the value as if n more were there. Digits after those are cut off.
pub data Fraction : ℕ → ℕ → List ℕ → ℕ → Type 0 where
  over : {n v : ℕ} → Fraction n v [] (v * 10 ^ n)
  counts : {n v b x w : ℕ} {a : List ℕ} → Digit b x → Fraction n (10 * v + x) a w → Fraction (suc n) v (b ∷ a) w
  cut : {v b x w : ℕ} {a : List ℕ} → Digit b x → Fraction zero v a w → Fraction zero v (b ∷ a) w

-- [ time-secfrac ], in nanoseconds
-- time-secfrac = decimal-point 1*DIGIT
pub data TimeSecfrac : List ℕ → ℕ → Type 0 where
  absent : TimeSecfrac [] 0
  given : {b n : ℕ} {a : List ℕ} → Fraction fraction_digits 0 (b ∷ a) n → TimeSecfrac (ch "." ∷ b ∷ a) n

-- time-hour = 2DIGIT ; 00-23
pub data TimeHour (k : Bool) : List ℕ → ℕ → Type 0 where
  hour : {a : List ℕ} {h : ℕ} → Decimal 2 0 a h → Checked k (h ≤ 23) → TimeHour k a h

-- time-minute = 2DIGIT ; 00-59
-- time-second = 2DIGIT ; 00-59, no leap seconds
pub data TimeMinute (k : Bool) : List ℕ → ℕ → Type 0 where
  sixtieth : {a : List ℕ} {m : ℕ} → Decimal 2 0 a m → Checked k (m ≤ 59) → TimeMinute k a m

-- local-time = time-hour ":" time-minute ":" time-second [ time-secfrac ]
pub data LocalTimeText (k : Bool) : List ℕ → ℕ → Type 0 where
  local_time : {a b c f : List ℕ} {h m s n : ℕ} → TimeHour k a h → TimeMinute k b m → TimeMinute k c s
      → TimeSecfrac f n → LocalTimeText k (a ++ (ch ":" ∷ (b ++ (ch ":" ∷ (c ++ f))))) (time_of_day h m s n)

-- local-date = date-fullyear "-" date-month "-" date-mday
-- date-fullyear = 4DIGIT ; date-month = 2DIGIT ; date-mday = 2DIGIT
pub data LocalDateText (k : Bool) : List ℕ → D.Date → Type 0 where
  local_date : {a b c : List ℕ} {y m d : ℕ} → Decimal 4 0 a y → Decimal 2 0 b m → Decimal 2 0 c d
      → Checked k (Calendar.Date y m d)
      → LocalDateText k (a ++ (ch "-" ∷ (b ++ (ch "-" ∷ c)))) (record { year = y; month = m; day = d })

-- ( "T" / " " ); a letter between quotes stands for both its cases (RFC 5234, 2.3)
pub data Separator : ℕ → Type 0 where
  letter : Separator (ch "T")
  small_letter : Separator (ch "t")
  space : Separator (ch " ")

-- "Z", so too
pub data Zulu : ℕ → Type 0 where
  letter : Zulu (ch "Z")
  small_letter : Zulu (ch "z")

-- ( plus / minus ) before n minutes
abbrev pub signed : Bool → ℕ → ℤ
signed false n = pos n
signed true n = neg_ℤ (pos n)

pub data PlusMinus : ℕ → Bool → Type 0 where
  plus : PlusMinus (ch "+") false
  minus : PlusMinus (ch "-") true

-- time-offset = "Z" / time-numoffset, in minutes
-- time-numoffset = ( plus / minus ) time-hour ":" time-minute
pub data TimeOffset (k : Bool) : List ℕ → ℤ → Type 0 where
  zulu : {b : ℕ} → Zulu b → TimeOffset k (b ∷ []) (pos 0)
  numoffset : {x h m : ℕ} {negative : Bool} {a b : List ℕ} → PlusMinus x negative → TimeHour k a h → TimeMinute k b m
      → TimeOffset k (x ∷ (a ++ (ch ":" ∷ b))) (signed negative (h * 60 + m))

-- time-value = local-date / local-time / local-date-time / offset-date-time
-- local-date-time = local-date ( "T" / " " ) local-time
-- offset-date-time = local-date-time time-offset
pub data TimeValue (k : Bool) : List ℕ → M.Time → Type 0 where
  local_date : {a : List ℕ} {d : D.Date} → LocalDateText k a d → TimeValue k a (LocalDate d)
  local_time : {a : List ℕ} {n : ℕ} → LocalTimeText k a n → TimeValue k a (LocalTime n)
  local_date_time : {a b : List ℕ} {d : D.Date} {x n : ℕ} → LocalDateText k a d → Separator x → LocalTimeText k b n
      → TimeValue k (a ++ (x ∷ b)) (LocalDateTime d n)
  offset_date_time : {a b c : List ℕ} {d : D.Date} {x n : ℕ} {o : ℤ} → LocalDateText k a d → Separator x
      → LocalTimeText k b n
      → TimeOffset k c o → TimeValue k (a ++ (x ∷ (b ++ c))) (OffsetDateTime d n o)
