-- The examples (specs/Examples.antt) are derived. Assumes nothing.

-- the texts with their meanings
pub mod Texts
use Prim.Native.Nat.{ℕ, zero, suc, ◌+◌, ◌*◌, ◌-◌, ◌≤◌, ◌<◌, ◌^◌, ◌%◌}
use mathlib.Core.Path.{◌≡◌, refl, sym, ap, ◌∙◌, subst}
use mathlib.Core.Bool.{Bool, true, false, cond}
use mathlib.Core.Logic.{◌⊎◌, inl, inr}
use mathlib.Core.List.{List, [], ◌∷◌, ◌++◌, append-nil}
use native.Mathlib.Omega.{arith}
use lib.Dec.{T, leb, ltb, leb→le, ltb→lt, lit≤, lit<}
use lib.IntN.{ℤ, pos, negsuc}
use lib.ListN.{length}
use Rattle.rules.specs.Rfc3629.{In, Scalar, encode}
use Rattle.rules.specs.Rfc3339 as Calendar
use Rattle.rules.proofs.Numbers.{row_1}
use Rattle.meaning.specs.Once.{once, once_elements, once_members, held, same}
use Rattle.meaning.specs.Letters.{letters, ch}
use Rattle.meaning.specs.Limits.{depth_limit, text_limit}
use Rattle.meaning.specs.declared.Number.{Number as Num}
use Rattle.meaning.specs.Clock.{time_of_day}
use Rattle.meaning.specs.Meaning.{Meaning, Meanings, Members}
use Rattle.grammar.specs.Checks.{Room}
use Rattle.grammar.specs.Characters.{Range, ◌to◌, Of, Among, Ascii, Many, Digit, Hexdig, Digits, Decimal, Hexadecimal}
use Rattle.grammar.specs.Comments.{CBeginLine, c_char, c_no_star, CLine, Stars, CInner, CBlock, Blank, LineEnd, Ws, Last}
use Rattle.grammar.specs.Numbers.{Finite, Sign, Int, Frac0, Frac1, E, Exp, Dec, X, Unsigned, Number}
use Rattle.grammar.specs.Strings.{Quote, double, single, Chars, Quoted, Short, Escape, unescaped, UpToTwo, source, MChar, NoNewline, StringPart}
use Rattle.grammar.specs.Strings.{Concat, String}
use Rattle.grammar.specs.Times.{Fraction, TimeSecfrac, TimeHour, TimeMinute, LocalTimeText, LocalDateText, Separator, PlusMinus, TimeOffset, TimeValue}
use Rattle.grammar.specs.Binary.{BEscape, b_unescaped, BPart, BDirect, BValue, Binary}
use Rattle.grammar.specs.Keys.{i_begin, i_continue, Identifier, Key}
use Rattle.grammar.specs.Values.{Inside, elements, members, Closes, Value, Rest, After, Item, Loose, Text}
use Rattle.grammar.proofs.Examples.Texts.{plus, date, examples, Derived}
use Rattle.grammar.proofs.Utf8.{both}

-- ---- classes by tests that antt computes

abbrev lies : ℕ → ℕ → ℕ → Bool
lies lo hi b = cond (leb lo b) (leb b hi) false

within : (lo hi b : ℕ) → T (lies lo hi b) → In lo hi b
within lo hi b h = let w = both (leb lo b) (leb b hi) h in record { low = leb→le lo b w.0; high = leb→le b hi w.1 }

abbrev lies_in : List Range → ℕ → Bool
lies_in [] b = false
lies_in ((lo to hi) ∷ r) b = cond (lies lo hi b) true (lies_in r b)

of : (r : List Range) (b : ℕ) → T (lies_in r b) → Of r b
of [] b h = h
of ((lo to hi) ∷ r) b h = go (λ p. of r b p) (lies lo hi b) refl h
  where
    go : (T (lies_in r b) → Of r b) → (x : Bool) → lies lo hi b ≡ x → T (cond x true (lies_in r b)) → In lo hi b ⊎ Of r b
    go f true e p = inl (within lo hi b (subst T (sym e) tt))
    go f false e p = inr (f p)

abbrev all : (ℕ → Bool) → List ℕ → Bool
all f [] = true
all f (b ∷ s) = cond (f b) (all f s) false

-- an ASCII character in one of the ranges
abbrev one_of : List Range → ℕ → Bool
one_of r b = cond (leb b 0x7F) (lies_in r b) false

among : (r : List Range) (b : ℕ) → T (one_of r b) → Among r (b ∷ [])
among r b h =
    let w = both (leb b 0x7F) (lies_in r b) h in
    let l = leb→le b 0x7F w.0 in
    subst (Among r) (row_1 b l) (Among.character (record { top = omega arith; whole = inl (omega arith) }) (of r b w.1))

-- a run of them
run : {X : List ℕ → Type 0} (f : ℕ → Bool) → ((b : ℕ) → T (f b) → X (b ∷ [])) → (s : List ℕ) → T (all f s) → Many X s
run f g [] h = Many.none
run f g (b ∷ s) h = let w = both (f b) (all f s) h in Many.more (g b w.0) (run f g s w.1)

-- ---- digits

abbrev valued : ℕ → List ℕ → ℕ
valued v [] = v
valued v (b ∷ s) = valued (10 * v + (b - ch "0")) s

decimals : (s : List ℕ) (v : ℕ) → T (all (lies (ch "0") (ch "9")) s) → Decimal (length s) v s (valued v s)
decimals [] v h = Digits.over
decimals (b ∷ s) v h = let w = both (lies (ch "0") (ch "9") b) (all (lies (ch "0") (ch "9")) s) h in
    Digits.next (Digit.digit (within _ _ b w.0)) (decimals s (10 * v + (b - ch "0")) w.1)

abbrev hex_value : ℕ → ℕ
hex_value b = cond (lies (ch "0") (ch "9") b) (b - ch "0") (cond (lies (ch "A") (ch "F") b) (b - ch "A" + 10) (b - ch "a" + 10))

abbrev is_hex : ℕ → Bool
is_hex b = cond (lies (ch "0") (ch "9") b) true (cond (lies (ch "A") (ch "F") b) true (lies (ch "a") (ch "f") b))

hexdig : (b : ℕ) → T (is_hex b) → Hexdig b (hex_value b)
hexdig b = go (lies (ch "0") (ch "9") b) refl (lies (ch "A") (ch "F") b) refl
  where
    go : (x : Bool) → lies (ch "0") (ch "9") b ≡ x → (y : Bool) → lies (ch "A") (ch "F") b ≡ y → T (cond x true (cond y true (lies (ch "a") (ch "f") b)))
        → Hexdig b (cond x (b - ch "0") (cond y (b - ch "A" + 10) (b - ch "a" + 10)))
    go true e y f h = Hexdig.decimal (within _ _ b (subst T (sym e) tt))
    go false e true f h = Hexdig.upper (within _ _ b (subst T (sym f) tt))
    go false e false f h = Hexdig.lower (within _ _ b h)

abbrev hex_valued : ℕ → List ℕ → ℕ
hex_valued v [] = v
hex_valued v (b ∷ s) = hex_valued (16 * v + hex_value b) s

hexes_from : (s : List ℕ) (v : ℕ) → T (all is_hex s) → Digits Hexdig 16 (length s) v s (hex_valued v s)
hexes_from [] v h = Digits.over
hexes_from (b ∷ s) v h = let w = both (is_hex b) (all is_hex s) h in Digits.next (hexdig b w.0) (hexes_from s (16 * v + hex_value b) w.1)

hexes : (s : List ℕ) → T (all is_hex s) → Hexadecimal (length s) s (hex_valued 0 s)
hexes s h = hexes_from s 0 h

-- ---- layout

sp : Ws (letters " ")
sp = Ws.blank Blank.space Ws.none

comment : {b : List ℕ} → CBeginLine b → (s : List ℕ) → T (all (one_of c_char) s) → CLine (b ++ s)
comment b s h = CLine.c_line b (run (one_of c_char) (among c_char) s h)

block : (s : List ℕ) → T (all (one_of c_no_star) s) → CBlock (letters "/*" ++ (s ++ letters "*/"))
block s h = CBlock.c_block (run (one_of c_no_star) (λ b h. CInner.no_star (among c_no_star b h)) s h) Stars.one

-- ---- numbers

abbrev digits : List ℕ → Bool
digits s = all (lies (ch "0") (ch "9")) s

int : (b : ℕ) (s : List ℕ) → T (lies (ch "1") (ch "9") b) → T (digits s) → Int (b ∷ s) (valued (b - ch "0") s)
int b s h l = Int.positive (within _ _ b h) (decimals s (b - ch "0") l)

-- a decimal number whose coefficient does not end in 0
finite : {s a : List ℕ} {g : Bool} {v up dn : ℕ} {m : Num} → Sign s g → Dec a v up dn → Finite true g v up dn m → Number true (s ++ a) m
finite s d f = Number.number s (Unsigned.dec d f)

whole : {g : Bool} {m up dn : ℕ} (c n : ℕ) → m * 10 ^ up ≡ c * 10 ^ n * 10 ^ dn → T (lies 1 9 (c % 10)) → T (ltb c (2 ^ 64)) → T (leb n 9999)
    → Finite true g m up dn (Num.Finite g c (pos n))
whole c n e h l r = Finite.whole e (λ z. omega (arith, within 1 9 (c % 10) h)) (ltb→lt c (2 ^ 64) l) (leb→le n 9999 r)

number : (b : ℕ) (s : List ℕ) (c n : ℕ) → T (lies (ch "1") (ch "9") b) → T (digits s) → valued (b - ch "0") s * 1 ≡ c * 10 ^ n * 1 → T (lies 1 9 (c % 10))
    → T (ltb c (2 ^ 64)) → T (leb n 9999) → Number true (b ∷ s) (Num.Finite false c (pos n))
number b s c n h l e x y z = subst (λ (t : List ℕ). Number true (b ∷ t) (Num.Finite false c (pos n))) (append-nil s)
    (finite Sign.unsigned (Dec.whole (int b s h l) Frac0.absent Exp.absent) (whole c n e x y z))

-- ---- strings

chars : {P : List ℕ → Type 0} {E : List ℕ → List ℕ → Type 0} {q : Quote} {a u : List ℕ} (f : ℕ → Bool) → ((b : ℕ) → T (f b) → P (b ∷ [])) → (s : List ℕ)
    → T (all f s) → Chars P E q a u → Chars P E q (s ++ a) (s ++ u)
chars f g [] h r = r
chars f g (b ∷ s) h r = let w = both (f b) (all f s) h in Chars.plain (g b w.0) (chars f g s w.1 r)

abbrev Inner : List ℕ → List ℕ → Type 0
Inner a u = Chars (Among unescaped) (Escape true) double a u

the : {a u : List ℕ} (s : List ℕ) → T (all (one_of unescaped) s) → Inner a u → Inner (s ++ a) (s ++ u)
the s h r = chars (one_of unescaped) (among unescaped) s h r

in_quotes : {a u : List ℕ} → Inner a u → StringPart true (ch "\"" ∷ (a ++ (ch "\"" ∷ []))) u
in_quotes r = StringPart.one_line (Quoted.quoted double r)

hello : Inner (letters "Hello") (letters "Hello")
hello = the (letters "Hello") tt Chars.none

m_char : (b : ℕ) → T (one_of (source double) b) → MChar double (b ∷ [])
m_char b h = MChar.m_char UpToTwo.no_quote (among (source double) b h)

m_chars : {a : List ℕ} (s : List ℕ) → T (all (one_of (source double)) s) → Many (MChar double) a → Many (MChar double) (s ++ a)
m_chars [] h r = r
m_chars (b ∷ s) h r = let w = both (one_of (source double) b) (all (one_of (source double)) s) h in Many.more (m_char b w.0) (m_chars s w.1 r)

-- ---- times

abbrev fraction_value : ℕ → ℕ → List ℕ → ℕ
fraction_value n v [] = v * 10 ^ n
fraction_value zero v (b ∷ s) = fraction_value zero v s
fraction_value (suc n) v (b ∷ s) = fraction_value n (10 * v + (b - ch "0")) s

fraction : (s : List ℕ) (n v : ℕ) → T (digits s) → Fraction n v s (fraction_value n v s)
fraction [] n v h = Fraction.over
fraction (b ∷ s) zero v h = let w = both (lies (ch "0") (ch "9") b) (digits s) h in Fraction.cut (Digit.digit (within _ _ b w.0)) (fraction s zero v w.1)
fraction (b ∷ s) (suc n) v h = let w = both (lies (ch "0") (ch "9") b) (digits s) h in
    Fraction.counts (Digit.digit (within _ _ b w.0)) (fraction s n (10 * v + (b - ch "0")) w.1)

hour : (s : List ℕ) → Decimal 2 0 s (valued 0 s) → T (leb (valued 0 s) 23) → TimeHour true s (valued 0 s)
hour s d h = TimeHour.hour d (leb→le (valued 0 s) 23 h)

minute : (s : List ℕ) → Decimal 2 0 s (valued 0 s) → T (leb (valued 0 s) 59) → TimeMinute true s (valued 0 s)
minute s d h = TimeMinute.sixtieth d (leb→le (valued 0 s) 59 h)

clock : LocalTimeText true (letters "10:23:54.345678") (time_of_day 10 23 54 345678000)
clock = LocalTimeText.local_time (hour (letters "10") (decimals _ 0 tt) tt) (minute (letters "23") (decimals _ 0 tt) tt)
    (minute (letters "54") (decimals _ 0 tt) tt) (TimeSecfrac.given (fraction (letters "345678") 9 0 tt))

noon : LocalTimeText true (letters "12:00:00.0000000009") (time_of_day 12 0 0 0)
noon = LocalTimeText.local_time (hour (letters "12") (decimals _ 0 tt) tt) (minute (letters "00") (decimals _ 0 tt) tt)
    (minute (letters "00") (decimals _ 0 tt) tt) (TimeSecfrac.given (fraction (letters "0000000009") 9 0 tt))

september : LocalDateText true (letters "2017-09-05") (date 2017 9 5)
september = LocalDateText.local_date (decimals (letters "2017") 0 tt) (decimals (letters "09") 0 tt) (decimals (letters "05") 0 tt)
    (record { year = lit≤ tt; days = 30; month = Calendar.Days.september; from = lit≤ tt; to = lit≤ tt })

leap_day : LocalDateText true (letters "2000-02-29") (date 2000 2 29)
leap_day = LocalDateText.local_date (decimals (letters "2000") 0 tt) (decimals (letters "02") 0 tt) (decimals (letters "29") 0 tt)
    (record { year = lit≤ tt; days = 29; month = Calendar.Days.february_leap (Calendar.Leap.fourth_hundred refl refl); from = lit≤ tt; to = lit≤ tt })

-- ---- binary

b_char : (b : ℕ) → T (lies_in b_unescaped b) → Ascii b_unescaped (b ∷ [])
b_char b h = Ascii.byte (of b_unescaped b h)

pair : (s : List ℕ) → T (all is_hex s) → length s ≡ 2 → Hexadecimal 2 s (hex_valued 0 s)
pair s h e = subst (λ (n : ℕ). Hexadecimal n s (hex_valued 0 s)) e (hexes s h)

-- ---- keys

identifier : (b : ℕ) (s : List ℕ) → T (lies_in i_begin b) → T (all (lies_in i_continue) s) → Key true (b ∷ s) (b ∷ s)
identifier b s h l = Key.identifier (Identifier.identifier (Ascii.byte (of i_begin b h)) (run (lies_in i_continue) (λ c p. Ascii.byte (of i_continue c p)) s l))

-- ---- whole texts

-- with no key
once_each : {a : List ℕ} → Loose true a Meaning.null → Text a Meaning.null
unfolding once
once_each x = record { loose = x; single = refl }

plain : {a : List ℕ} {m : Meaning} → Value true depth_limit a m → T (leb (length a) text_limit) → once m ≡ true → Text a m
plain {a} {m} v h e = record {
  loose = subst (λ (t : List ℕ). Loose true t m) (append-nil a) (Loose.text Ws.none v (Last.ended Ws.none)
      (rw append-nil (leb→le (length a) text_limit h)));
  single = e;
}

element : {d : ℕ} {x : Meanings} {c : ℕ} (b : ℕ) → Number true (b ∷ []) (Num.Finite false c (pos 0))
    → Item true d (elements x) (b ∷ []) (elements (Meanings.more x (plus c (pos 0))))
element b n = Item.element (Value.number n)

pub derived : Derived examples
unfolding depth_limit encode once once_elements once_members held same
derived = (
  once_each
      (Loose.text (Ws.line (comment CBeginLine.hash (letters " single-line comment") tt) LineEnd.line_feed Ws.none) Value.null_word
      (Last.ended Ws.none) (lit≤ tt)),
  (
    once_each (Loose.text Ws.none Value.null_word (Last.unended Ws.none (comment CBeginLine.slashes (letters " single-line comment") tt)) (lit≤ tt)),
    (
      once_each (Loose.text (Ws.block (block (letters " block comment ") tt) Ws.none) Value.null_word (Last.ended Ws.none) (lit≤ tt)),
      (
        plain (Value.array Room.falls (Rest.item (Ws.blank Blank.space (Ws.line (comment CBeginLine.hash (letters " 1") tt) LineEnd.line_feed Ws.none))
            (element (ch "2") (number (ch "2") [] 2 0 tt tt refl tt tt tt)) (After.end Ws.none Closes.bracket))) tt refl,
        -- 42.
        (
          plain (Value.number (finite Sign.unsigned (Dec.whole (int (ch "4") (letters "2") tt tt) (Frac0.given Digits.over) Exp.absent)
              (whole 42 0 refl tt tt tt))) tt refl,
          -- +.5
          (
            plain (Value.number (finite Sign.plus (Dec.part (Frac1.given (decimals (letters "5") 0 tt)) Exp.absent)
                (Finite.part {c = 5} {n = 0} refl (λ e. omega arith) (lit< tt) (lit≤ tt)))) tt refl,
            (
              plain (Value.number (Number.number Sign.unsigned Unsigned.nan)) tt refl,
              (
                plain (Value.number (Number.number Sign.minus Unsigned.inf)) tt refl,
                -- 0xDEADBEEF
                (
                  plain (Value.number (Number.number Sign.unsigned (Unsigned.hex X.small (hexes (letters "DEADBEEF") tt) (lit< tt)
                      (whole 3735928559 0 refl tt tt tt)))) tt refl,
                  (
                    plain (Value.number (number (ch "1") (letters "8446744073709551615") 18446744073709551615 0 tt tt refl tt tt tt)) tt refl,
                    (
                      plain (Value.number (number (ch "1") (letters "0000000000000000000000") 1 22 tt tt refl tt tt tt)) tt refl,
                      -- -0x0
                      (
                        plain (Value.number (Number.number Sign.minus (Unsigned.hex X.small (hexes (letters "0") tt) (lit< tt) (Finite.nought refl)))) tt refl,
                        -- 1e5
                        (
                          plain (Value.number (finite Sign.unsigned (Dec.whole (int (ch "1") [] tt tt) Frac0.absent
                              (Exp.given E.small Sign.unsigned (decimals (letters "5") 0 tt))) (whole 1 5 refl tt tt tt))) tt refl,
                          (
                            plain (Value.number (number (ch "1") (letters "00000") 1 5 tt tt refl tt tt tt)) tt refl,
                            -- strings
                            (
                              plain (Value.string (Concat.part (in_quotes (the (letters "Add ") tt
                                  (Chars.escaped (Escape.short Short.nul) (the (letters " or ") tt
                                  (Chars.escaped (Escape.short Short.vtab) (the (letters ", even ") tt
                                  (Chars.escaped (Escape.short Short.single_quote) (the (letters " is allowed in a string.") tt Chars.none)))))))))) tt refl,
                              (
                                plain (Value.string (Concat.plus (in_quotes (Chars.escaped
                                    (Escape.braced (hexes (letters "1D11E") tt) (record { top = lit≤ tt; whole = inr (lit< tt) }))
                                    (the (letters " was my first love ") tt Chars.none))) sp sp
                                    (Concat.part (in_quotes (the (letters "and it will be my last.") tt Chars.none))))) tt refl,
                                (
                                  plain (Value.string (Concat.part (StringPart.multiline double
                                      (m_chars (letters "String with a \\ and ") tt
                                      (Many.more (MChar.m_char UpToTwo.one_quote (among (source double) (ch " ") tt))
                                      (m_chars (letters "characters - no escape sequences,\nmay contain line breaks") tt Many.none)))
                                      (NoNewline.other_byte (λ e. omega arith) (λ e. omega arith))))) tt refl,
                                  (
                                    plain (Value.string (Concat.part (in_quotes (Chars.escaped
                                        (Escape.pair (hexes (letters "d834") tt) (within _ _ 0xD834 tt) (hexes (letters "dd1e") tt) (within _ _ 0xDD1E tt))
                                        Chars.none)))) tt refl,
                                    (
                                      plain (Value.string (Concat.part (StringPart.multiline double Many.none NoNewline.empty))) tt refl,
                                      -- times
                                      (
                                        plain (Value.time_value (TimeValue.local_date leap_day)) tt refl,
                                        (
                                          plain (Value.time_value (TimeValue.local_time clock)) tt refl,
                                          (
                                            plain (Value.time_value (TimeValue.local_date_time september Separator.space clock)) tt refl,
                                            (
                                              plain (Value.time_value (TimeValue.offset_date_time september Separator.letter clock
                                                  (TimeOffset.numoffset PlusMinus.plus (hour (letters "02") (decimals _ 0 tt) tt)
                                                  (minute (letters "00") (decimals _ 0 tt) tt)))) tt refl,
                                              (
                                                plain (Value.time_value (TimeValue.local_time noon)) tt refl,
                                                -- binary
                                                (
                                                  plain (Value.binary (Concat.part
                                                      (BValue.string (Quoted.quoted double
                                                      (chars (lies_in b_unescaped) b_char (letters "Hello, ") tt
                                                      (Chars.escaped (BEscape.byte (pair (letters "77") tt refl))
                                                      (chars (lies_in b_unescaped) b_char (letters "orld!") tt Chars.none))))))) tt refl,
                                                  (
                                                    plain (Value.binary (Concat.part
                                                        (BValue.direct (BDirect.dotted
                                                        (BPart.more (pair (letters "48") tt refl)
                                                        (BPart.more (pair (letters "65") tt refl)
                                                        (BPart.more (pair (letters "6c") tt refl)
                                                        (BPart.more (pair (letters "6c") tt refl) (BPart.last (pair (letters "6f") tt refl))))))
                                                        (BDirect.dotted (BPart.more (pair (letters "2c") tt refl) (BPart.last (pair (letters "20") tt refl)))
                                                        (BDirect.dotted (BPart.more (pair (letters "77") tt refl)
                                                        (BPart.more (pair (letters "6f") tt refl)
                                                        (BPart.more (pair (letters "72") tt refl)
                                                        (BPart.more (pair (letters "6c") tt refl) (BPart.last (pair (letters "64") tt refl))))))
                                                        (BDirect.part (BPart.last (pair (letters "21") tt refl))))))))) tt refl,
                                                    (
                                                      plain (Value.binary (Concat.part BValue.empty)) tt refl,
                                                      -- keys and commas
                                                      (
                                                        plain (Value.object Room.falls
                                                            (Rest.item sp (Item.member (identifier (ch "f") (letters "oo") tt tt) Ws.none sp
                                                            (Value.string (Concat.part (in_quotes hello))))
                                                            (After.comma Ws.none
                                                            (Rest.item sp (Item.member (identifier (ch "b") (letters "ar") tt tt) Ws.none sp
                                                            (Value.number (number (ch "4") (letters "2") 42 0 tt tt refl tt tt tt)))
                                                            (After.comma Ws.none (Rest.close sp Closes.brace)))))) tt refl,
                                                        (
                                                          plain (Value.array Room.falls
                                                              (Rest.item sp (element (ch "1") (number (ch "1") [] 1 0 tt tt refl tt tt tt))
                                                              (After.comma Ws.none
                                                              (Rest.item sp (element (ch "2") (number (ch "2") [] 2 0 tt tt refl tt tt tt))
                                                              (After.comma Ws.none
                                                              (Rest.item sp (element (ch "3") (number (ch "3") [] 3 0 tt tt refl tt tt tt))
                                                              (After.comma Ws.none (Rest.close sp Closes.bracket)))))))) tt refl,
                                                          tt,
                                                        ),
                                                      ),
                                                    ),
                                                  ),
                                                ),
                                              ),
                                            ),
                                          ),
                                        ),
                                      ),
                                    ),
                                  ),
                                ),
                              ),
                            ),
                          ),
                        ),
                      ),
                    ),
                  ),
                ),
              ),
            ),
          ),
        ),
      ),
    ),
  ),
)
