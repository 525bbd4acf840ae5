-- Vectors, computed by the checker: texts with their refusal (number and place) or the canonical text of their meaning.
-- Assumes nothing.
use Prim.Native.Nat.{ℕ}
use Prim.Native.String.{String}
use mathlib.Core.Path.{◌≡◌, refl}
use mathlib.Core.List.{List, [], ◌∷◌}
use lib.Count.{count_leading_zeros}
use Rattle.rules.specs.Between.Posts.{low_of, high_of}
use Rattle.rules.specs.Rfc3629.{encode}
use Rattle.rules.specs.Between.Decided.{is_wide, length_at, fault_from, judged}
use Rattle.rules.specs.Between.Decided.{is_leap, is_date}
use Rattle.meaning.specs.Letters.{letters}
use Rattle.meaning.specs.Limits.{depth_limit}
use Rattle.meaning.specs.Paper.{number_of, place_of}
use Rattle.meaning.specs.Canonical.{decimal_in, decimal, fixed, trimmed, escaped, escapes, quoted, hex_pairs, binary_text, power_text, zeros, pointed}
use Rattle.meaning.specs.Canonical.{finite_text, number_text, date_text, fraction_text, clock_text, offset_text, time_text, text_with, canonical}
use Rattle.meaning.proofs.Vectors.{Vector, gots, wants}
use Rattle.machine.specs.Numeric.{strip, settle}
use Rattle.machine.specs.Strings as S
use Rattle.machine.specs.Binaries as B
use Rattle.machine.specs.Names as N
use Rattle.machine.specs.Machine.{Verdict, Ok, No, read, reading}
use Rattle.machine.specs.Verdict.{decoded, verdict}

pub data Outcome : Type 0 where
  means : String → Outcome
  refused : ℕ → ℕ → Outcome

-- as numbers: a refusal's number and place, or 0 and the canonical text
abbrev seen : Verdict → List ℕ
seen (Ok m) = 0 ∷ canonical m
seen (No r) = number_of r ∷ place_of r ∷ []

abbrev wanted : Outcome → List ℕ
wanted (means s) = 0 ∷ letters s
wanted (refused n p) = n ∷ p ∷ []

unfoldable pub text : String → Outcome → Vector (List ℕ)
text t o = record { got = seen (verdict (letters t)); want = wanted o }

unfoldable pub vectors : List (Vector (List ℕ))
vectors =
    -- the sample record and the cases marked P (docs/FORMAT.md, 14)
    text "{ run: 0x1F, # melt\n  eta: NaN, at: 2021-03-04 05:06:07.50Z, t: [.5, 1250.5,], }"
    (means "{\"run\":31,\"eta\":NaN,\"at\":2021-03-04T05:06:07.5Z,\"t\":[0.5,1250.5]}")
    ∷ text "" (refused 3 0)
    ∷ text "[,]" (refused 3 1)
    ∷ text "[1,]" (means "[1]")
    ∷ text "007" (refused 3 3)
    ∷ text "1:" (refused 3 1)
    ∷ text "18446744073709551615" (means "18446744073709551615")
    ∷ text "18446744073709551616" (refused 6 0)
    ∷ text "10000000000000000000000" (means "1e22")
    ∷ text "-0x0" (means "-0")
    ∷ text "2000-02-29" (means "2000-02-29")
    ∷ text "2000-02-30" (refused 5 0)
    ∷ text "1900-02-29" (refused 5 0)
    ∷ text "\"\\ud834\\udd1e\"" (means "\"ð\u{9d}\u{84}\u{9e}\"")
    ∷ text "\"\\ud834\"+\"\\udd1e\"" (refused 4 1)
    ∷ text "$" (means "$")
    ∷ text "$4" (refused 3 2)
    ∷ text "[ # 1\n2]" (means "[2]")
    ∷ text "1e5" (means "100000")
    ∷ text "100000" (means "100000")
    ∷ text "5.5e+" (refused 3 5)
    ∷ text "12:" (refused 3 3)
    ∷ text "-" (refused 3 1)
    ∷ text "12:00:00.9999999999" (means "12:00:00.999999999")
    ∷ text "2021-03-04T05:06:07-23:59" (means "2021-03-04T05:06:07-23:59")
    ∷ text "[[[[[[[[[[[[[[[[[[[[[[[[[[[[[[[[[[[[[[[[[[[[[[[[[[[[[[[[[[[[[[[[]]]]]]]]]]]]]]]]]]]]]]]]]]]]]]]]]]]]]]]]]]]]]]]]]]]]]]]]]]]]]]]]"
    (means "[[[[[[[[[[[[[[[[[[[[[[[[[[[[[[[[[[[[[[[[[[[[[[[[[[[[[[[[[[[[[[[[]]]]]]]]]]]]]]]]]]]]]]]]]]]]]]]]]]]]]]]]]]]]]]]]]]]]]]]]]]]]]]]]")
    ∷ text "[[[[[[[[[[[[[[[[[[[[[[[[[[[[[[[[[[[[[[[[[[[[[[[[[[[[[[[[[[[[[[[[[" (refused 7 64)
    ∷ text "[{a:[{a:[{a:[{a:[{a:[{a:[{a:[{a:[{a:[{a:[{a:[{a:[{a:[{a:[{a:[{a:[{a:[{a:[{a:[{a:[{a:[{a:[{a:[{a:[{a:[{a:[{a:[{a:[{a:[{a:[{a:[{a:[" (refused 7 128)
    -- the points about texts that docs/FORMAT.md marks as decided
    -- 1. 3 to 7 "from left to right" means in reading order of items, not by smallest place.
    ∷ text "[24:00:00.]" (refused 3 10)
    ∷ text "24:00:00x" (refused 5 0)
    ∷ text "2021-13-04T" (refused 3 11)
    ∷ text "1e99999x" (refused 6 0)
    ∷ text "[1e99999" (refused 6 1)
    ∷ text "[[[[[[[[[[[[[[[[[[[[[[[[[[[[[[[[[[[[[[[[[[[[[[[[[[[[[[[[[[[[[[[[[\0" (refused 7 64)
    ∷ text "[\"\\ud834\"x" (refused 4 2)
    ∷ text "[\"\\ud834" (refused 3 8)
    -- 2. Long digit runs followed by `:` or `-`.
    ∷ text "18446744073709551616:" (refused 6 0)
    ∷ text "12345:" (refused 3 5)
    ∷ text "12345-" (refused 3 5)
    -- 3. Digits with no sign, zero first.
    ∷ text "00" (refused 3 2)
    ∷ text "00000" (refused 3 4)
    ∷ text "[01]" (refused 3 3)
    ∷ text "00x1" (refused 3 2)
    ∷ text "00:" (refused 3 3)
    ∷ text "0000-" (refused 3 5)
    ∷ text "0:" (refused 3 1)
    ∷ text "-007" (refused 3 2)
    ∷ text "+2021-01-01" (refused 3 5)
    -- 4. Maximal munch has no way back (except the date and its space).
    ∷ text "0x" (refused 3 2)
    ∷ text "0xg" (refused 3 2)
    ∷ text "1e" (refused 3 2)
    ∷ text "1e5x" (refused 3 3)
    ∷ text "1e5." (refused 3 3)
    ∷ text "$48." (refused 3 4)
    ∷ text "$48..65" (refused 3 4)
    ∷ text "$." (refused 3 1)
    ∷ text "$false" (refused 3 3)
    ∷ text "0x1e+5" (refused 3 4)
    -- 5. `/` that opens no comment.
    ∷ text "1/2" (refused 3 2)
    ∷ text "/" (refused 3 1)
    ∷ text "[/]" (refused 3 2)
    -- 6. Words by common prefix.
    ∷ text "nan" (refused 3 1)
    ∷ text "NULL" (refused 3 1)
    ∷ text "nul" (refused 3 3)
    ∷ text "nullx" (refused 3 4)
    ∷ text "True" (refused 3 0)
    -- 7. Wrong escape.
    ∷ text "\"\\q\"" (refused 3 2)
    ∷ text "\"\\u12g4\"" (refused 3 5)
    ∷ text "\"\\u{}\"" (refused 3 4)
    ∷ text "$\"\\u0041\"" (refused 3 3)
    -- 8. Non-ASCII where not allowed.
    ∷ text "1Ã©" (refused 3 1)
    ∷ text "$\"Ã©\"" (refused 3 2)
    ∷ text "{aÃ©:1}" (refused 3 2)
    -- 9. BOM, NUL, other layout characters.
    ∷ text "ï»¿1" (refused 3 0)
    ∷ text "1\0" (refused 3 1)
    ∷ text "\u{b}1" (refused 3 0)
    ∷ text "Â\u{a0}1" (refused 3 0)
    -- 10. Empty or only layout.
    ∷ text "" (refused 3 0)
    ∷ text " \n" (refused 3 2)
    ∷ text "#1" (refused 3 2)
    ∷ text "/*" (refused 3 2)
    -- 11. 2 over everything but 1.
    ∷ text "[,]ÿ" (refused 2 3)
    ∷ text "ÿ" (refused 2 0)
    ∷ text "\"â\u{82}\"" (refused 2 1)
    ∷ text "\"í\u{a0}\u{80}\"" (refused 2 1)
    ∷ text "\"Ã" (refused 2 1)
    -- 12. Date followed by one space.
    ∷ text "2021-03-04 " (means "2021-03-04")
    ∷ text "2021-03-04 x" (refused 3 11)
    ∷ text "[2021-03-04 1]" (refused 3 13)
    ∷ text "2021-13-04 x" (refused 5 0)
    ∷ text "2021-13-04 1" (refused 3 12)
    ∷ text "2021-03-04  12:00:00" (refused 3 12)
    ∷ text "2021-03-04\t12:00:00" (refused 3 11)
    ∷ text "2021-03-04 2021" (refused 3 13)
    -- 13. After `T` there is no way back.
    ∷ text "2021-03-04Tx" (refused 3 11)
    ∷ text "2021-03-04T" (refused 3 11)
    -- 14. Small letters: t and z wherever T and Z may stand, and nothing else.
    ∷ text "2021-03-04t05:06:07" (means "2021-03-04T05:06:07")
    ∷ text "2021-13-04t05:06:07" (refused 5 0)
    ∷ text "2021-03-04T05:06:07z" (means "2021-03-04T05:06:07Z")
    ∷ text "2021-03-04t05:06:07.5z" (means "2021-03-04T05:06:07.5Z")
    ∷ text "2021-03-04 05:06:07z" (means "2021-03-04T05:06:07Z")
    ∷ text "2021-03-04t05:06:07zz" (refused 3 20)
    ∷ text "2021-03-04tx" (refused 3 11)
    ∷ text "2021-03-04t" (refused 3 11)
    ∷ text "2021-03-04 t05:06:07" (refused 3 11)
    ∷ text "2021-13-04t" (refused 3 11)
    ∷ text "2021-13-04z" (refused 5 0)
    ∷ text "2021-03-04z" (refused 3 10)
    ∷ text "05:06:07z" (refused 3 8)
    ∷ text "\"\\U0041\"" (refused 3 2)
    -- 15. Offset fields are judged as hour and minute, not as a sum.
    ∷ text "2021-03-04T05:06:07+24:00" (refused 5 0)
    ∷ text "2021-03-04T05:06:07+22:60" (refused 5 0)
    ∷ text "2021-03-04T05:06:07-00:00" (means "2021-03-04T05:06:07Z")
    ∷ text "2021-03-04T05:06:07+23:59" (means "2021-03-04T05:06:07+23:59")
    -- 16. Place of 5.
    ∷ text "[2021-03-04 24:00:00]" (refused 5 1)
    ∷ text "[2021-03-04T05:06:07+24:00]" (refused 5 1)
    -- 17. A local time has no offset.
    ∷ text "12:00:00Z" (refused 3 8)
    ∷ text "12:00:00+01:00" (refused 3 8)
    ∷ text "25:00:00Z" (refused 5 0)
    -- 18. Hour 24, second 60, year 0000, long fractions.
    ∷ text "24:00:00" (refused 5 0)
    ∷ text "23:59:60" (refused 5 0)
    ∷ text "0000-02-29" (means "0000-02-29")
    ∷ text "12:00:00.0000000009" (means "12:00:00")
    ∷ text "12:00:00." (refused 3 9)
    -- 19. `+` after a date-time.
    ∷ text "2021-03-04T05:06:07+\"a\"" (refused 3 20)
    ∷ text "2021-03-04+01:00" (refused 3 10)
    -- 20. The range is judged on the meaning, after zeros are moved into the power.
    ∷ text "10e-10000" (means "1e-9999")
    ∷ text "0.1e10000" (means "1e9999")
    ∷ text "10e9999" (refused 6 0)
    ∷ text "1.00e-10000" (refused 6 0)
    ∷ text "184467440737095516150" (means "18446744073709551615e1")
    ∷ text "1844674407370955161.6" (refused 6 0)
    ∷ text "0.1844674407370955161500" (means "0.18446744073709551615")
    -- 21. Zero with any exponent.
    ∷ text "0e99999" (means "0")
    ∷ text "0.000e5" (means "0")
    ∷ text "-0e99999999999999999999999" (means "-0")
    ∷ text "-.0" (means "-0")
    -- 22. Hex at or above 2^64.
    ∷ text "0x56BC75E2D63100000" (refused 6 0)
    ∷ text "0xA" (means "10")
    ∷ text "0x0000000000000000000001" (means "1")
    ∷ text "-0x0" (means "-0")
    -- 23. Signed NaN.
    ∷ text "-NaN" (means "NaN")
    ∷ text "-Na" (refused 3 3)
    ∷ text "-nan" (refused 3 1)
    -- 24. Place of 6 with a sign.
    ∷ text "[+1e10000]" (refused 6 1)
    -- 25. Three quotes.
    ∷ text "\"\"\"" (refused 3 3)
    ∷ text "\"\"\"\"" (refused 3 4)
    ∷ text "\"\"\"\"\"\"" (means "\"\"")
    ∷ text "\"\"\"\"\"\"\"" (refused 3 6)
    ∷ text "\"\"\"\"a\"\"\"" (means "\"\\\"a\"")
    ∷ text "\"\"\"a\"\"\"\"" (refused 3 7)
    ∷ text "\"\" \"a\"" (refused 3 3)
    -- 26. Trimming after the opening.
    ∷ text "\"\"\"\r\n\r\n\"\"\"" (means "\"\\r\\n\"")
    ∷ text "\"\"\"\r\"\"\"" (means "\"\\r\"")
    ∷ text "\"\"\"\n\r\"\"\"" (means "\"\\r\"")
    ∷ text "\"\"\"\r\r\n\"\"\"" (means "\"\\r\\r\\n\"")
    ∷ text "\"a\"+\"\"\"\nb\"\"\"" (means "\"ab\"")
    -- 27. Which escape is "the first bad".
    ∷ text "\"\\ud834\\ud834\\udd1e\"" (refused 4 1)
    ∷ text "\"\\udd1e\\ud834\"" (refused 4 1)
    ∷ text "\"\\ud834\\u{dd1e}\"" (refused 4 1)
    ∷ text "\"\\ud834\\udd1e\\udd1e\"" (refused 4 13)
    ∷ text "\"\\u{110000}\\q\"" (refused 3 12)
    -- 28. 4 waits for the closing quote only of its own part.
    ∷ text "\"\\ud834\"+x" (refused 4 1)
    ∷ text "\"a\"+\"\\ud834" (refused 3 11)
    ∷ text "{\"\\ud834\"" (refused 4 2)
    -- 29. `\u{...}` with many digits.
    ∷ text "\"\\u{0000000041}\"" (means "\"A\"")
    ∷ text "\"\\u{100000041}\"" (refused 4 1)
    ∷ text "\"\\u{D800}\"" (refused 4 1)
    -- 30. DEL and C1.
    ∷ text "\"\u{7f}\"" (means "\"\u{7f}\"")
    ∷ text "1#\u{7f}" (means "1")
    ∷ text "$\"\u{7f}\"" (refused 3 2)
    -- 31. `$` and what follows.
    ∷ text "$ \"a\"" (refused 3 2)
    ∷ text "$\"\"\"a\"\"\"" (refused 3 3)
    ∷ text "$\"a\"48" (refused 3 4)
    ∷ text "{$:$}" (means "{\"$\":$}")
    ∷ text "{$\"a\":1}" (refused 3 2)
    ∷ text "$4 " (refused 3 2)
    ∷ text "$+$" (means "$")
    -- 32. Joining.
    ∷ text "\"a\"+$61" (refused 3 4)
    ∷ text "\"a\" # x\n + \"b\"" (means "\"ab\"")
    ∷ text "{\"a\"+b:1}" (refused 3 5)
    ∷ text "{a+\"b\":1}" (refused 3 2)
    ∷ text "1+1" (refused 3 1)
    -- 33. Control characters in comments.
    ∷ text "1#\u{1}" (refused 3 2)
    ∷ text "/*\u{b}*/1" (refused 3 2)
    ∷ text "#a\r1" (means "1")
    ∷ text "#â\u{80}¨1" (refused 3 5)
    -- 34. `/*/`.
    ∷ text "/*/1" (refused 3 4)
    ∷ text "/*/*/1" (means "1")
    -- 35. Comment at the end without a newline.
    ∷ text "1//" (means "1")
    ∷ text "1#" (means "1")
    -- 36. Depth.
    ∷ text "[[[[[[[[[[[[[[[[[[[[[[[[[[[[[[[[[[[[[[[[[[[[[[[[[[[[[[[[[[[[[[[[1[" (refused 3 65)
    ∷ text "[[[[[[[[[[[[[[[[[[[[[[[[[[[[[[[[[[[[[[[[[[[[[[[[[[[[[[[[[[[[[[[[" (refused 3 64)
    -- 37. Empty and repeated keys.
    ∷ text "{\"\":1,\"\":1}" (means "{\"\":1,\"\":1}")
    ∷ []

pub vectors_hold : gots vectors ≡ wants vectors
unfolding text vectors gots wants verdict decoded judged fault_from length_at is_wide low_of high_of count_leading_zeros encode is_leap is_date depth_limit
    decimal_in decimal
    fixed trimmed escaped escapes quoted hex_pairs binary_text power_text zeros pointed finite_text number_text date_text fraction_text clock_text offset_text
    time_text text_with strip settle read reading S.hex_of S.short_of S.alone S.unit S.in_braces S.hexed S.on_hex S.on_brace S.on_short S.plain_byte S.on_body
    S.line_byte
    S.on_lines S.scan B.on_digit B.on_short B.on_text B.scan N.class_of N.on_start N.on_name N.scan N.word_scan
vectors_hold = refl
