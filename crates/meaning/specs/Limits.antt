-- The limits (docs/FORMAT.md, 8), each named once. Assumes nothing.
use Rattle.std.specs.Prelude.{ℕ, ◌*◌, ◌^◌}

-- the bytes of a text, read or written
abbrev pub text_limit : ℕ
text_limit = 16777216

-- how many arrays and objects may be open
unfoldable pub depth_limit : ℕ
depth_limit = 64

-- a coefficient is below 2^64
abbrev pub coefficient_limit : ℕ
coefficient_limit = 2 ^ 64

-- the power lies from -9,999 to 9,999
abbrev pub power_limit : ℕ
power_limit = 9999

-- a number is written without a power up to so many digits, or so many behind the point
abbrev pub plain_digits : ℕ
plain_digits = 20

-- an offset in minutes lies from -1,439 to 1,439
abbrev pub offset_limit : ℕ
offset_limit = 1439

-- fraction digits after the ninth are cut off: a second has 10^9 parts
abbrev pub fraction_digits : ℕ
fraction_digits = 9

abbrev pub second : ℕ
second = 10 ^ fraction_digits

-- hours 0 to 23, minutes and seconds 0 to 59: a time of day is below this
abbrev pub day : ℕ
day = 24 * 60 * 60 * second

-- the records of a well-formed tape, and the bytes of its store
abbrev pub record_limit : ℕ
record_limit = 16777216

abbrev pub store_limit : ℕ
store_limit = 16777216
