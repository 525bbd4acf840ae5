-- A string part as the check keeps it, and as the machine has it: what a byte does to both is the same. Assumes nothing.
use Prim.Native.Nat.{ℕ, zero, suc, ◌+◌, ◌*◌, ◌-◌, ◌%◌, ◌≤◌, ◌<◌}
use mathlib.Core.Path.{◌≡◌, refl, ap}
use mathlib.Core.Bool.{Bool, true, false, cond}
use mathlib.Core.Logic.{◌⊎◌, inl, inr}
use mathlib.Core.List.{List, [], ◌∷◌, ◌++◌}
use native.Mathlib.Omega.{arith}
use lib.Dec.{eqb, ltb, leb}
use lib.ListN.{length, length-append, length-replicate, replicate}
use borrow.Author.Tests.{ltb-true, ltb-false, le-ltb, lt-leb, ne_eqb}
use Rattle.rules.specs.Rfc3629.{encode}
use Rattle.rules.proofs.Numbers.{row_1, row_4}
use Rattle.meaning.specs.Limits.{text_limit}
use Rattle.meaning.specs.Letters.{ch, letters}
use Rattle.meaning.specs.declared.Refusal.TheVariants.{BadEscape}
use Rattle.grammar.specs.Strings.{joined}
use Rattle.machine.specs.Scan as Scan
use Rattle.machine.specs.Scan.{over}
use Rattle.machine.specs.Strings as M
use Rattle.machine.specs.Strings.{hex_of, no_digit, short_of, no_short, plain_byte, line_byte}
use Rattle.items.specs.Between.StringPart.{Like, same, both, Grown, grown_to}
use Rattle.items.proofs.StringPartEscapeLaws.{grown_small, grown_big}
use Rattle.arriving.specs.declared.states.Quoted.{Quoted}
use Rattle.arriving.specs.declared.states.Inner as InnerOf
use Rattle.arriving.specs.declared.states.Inner.TheVariants as Inner
use Rattle.arriving.specs.declared.states.Mode.{Mode}
use Rattle.arriving.specs.declared.states.Mode.TheVariants.{Quoting}
use Rattle.arriving.specs.declared.states.Out.{Out}
use Rattle.arriving.specs.declared.states.Out.TheVariants.{Takes, Stops, Breaks}
use Rattle.arriving.specs.Between.Strings as C
use Rattle.arriving.specs.Between.Strings.{quoted, open_quote, next_quoted}
use Rattle.arriving.proofs.Alike.{Alike, takes, stops, breaks}

-- ---- one state stands for the other

-- a byte that may be a quote
pub record Mark (q : ℕ) : Type 0 where
  pub low : 0 < q
  pub high : q < 256

abbrev pub bad_at : ℕ → M.Bad → ℕ
bad_at base M.fine = 0
bad_at base (M.spoilt at) = base + at + 1

abbrev pub half_at : ℕ → M.Half → ℕ
half_at base M.whole = 0
half_at base (M.half at h) = base + at + 1

abbrev pub kept : ℕ → M.Ctx → Quoted
kept base k = quoted k.quote (bad_at base k.bad) (half_at base k.high)

-- below this the value of n more digits after the next one stays below 65536
abbrev pub room : ℕ → ℕ
room zero = 4096
room (suc zero) = 256
room (suc (suc zero)) = 16
room (suc (suc (suc zero))) = 1
room (suc (suc (suc (suc n)))) = 0

-- the third: how many store bytes have come
pub data StringIs (base : ℕ) : Mode → M.St → ℕ → Type 0 where
  is_one : {q : ℕ} → Mark q → StringIs base (Quoting (quoted q 0 0) Inner.One) (M.one q) 0
  is_two : {q : ℕ} → Mark q → StringIs base (Quoting (quoted q 0 0) Inner.Two) (M.two q) 0
  is_opened : {q : ℕ} → Mark q → StringIs base (Quoting (quoted q 0 0) Inner.Opened) (M.lines0 q) 0
  is_cr : {q : ℕ} → Mark q → StringIs base (Quoting (quoted q 0 0) Inner.OpenedCr) (M.lines_cr q) 0
  is_lines : {q n c : ℕ} {acc : List ℕ} → Mark q → n ≤ 2 → length acc ≡ c
      → StringIs base (Quoting (quoted q 0 0) (Inner.Lines n)) (M.lines q n acc) c
  is_body : {k : M.Ctx} {c : ℕ} → Mark k.quote → length k.acc ≡ c
      → StringIs base (Quoting (kept base k) Inner.Body) (M.body k) c
  is_escape : {k : M.Ctx} {at c : ℕ} → Mark k.quote → length k.acc ≡ c
      → StringIs base (Quoting (kept base k) (Inner.Escape (base + at + 1))) (M.esc k at) c
  is_unicode : {k : M.Ctx} {at c : ℕ} → Mark k.quote → length k.acc ≡ c
      → StringIs base (Quoting (kept base k) (Inner.Unicode (base + at + 1))) (M.uni k at) c
  is_hex : {k : M.Ctx} {at n v c : ℕ} → Mark k.quote → v < room n → length k.acc ≡ c
      → StringIs base (Quoting (kept base k) (Inner.Hex v n (base + at + 1))) (M.hex k at n v) c
  is_brace_open : {k : M.Ctx} {at c : ℕ} → Mark k.quote → length k.acc ≡ c
      → StringIs base (Quoting (kept base k) (Inner.BraceOpen (base + at + 1))) (M.brace0 k at) c
  is_brace : {k : M.Ctx} {at v w c : ℕ} → Mark k.quote → Like v w → length k.acc ≡ c
      → StringIs base (Quoting (kept base k) (Inner.Brace v (base + at + 1))) (M.brace k at w) c
  is_done : {k : M.Ctx} {c : ℕ} → length k.acc ≡ c → StringIs base (Quoting (kept base k) Inner.Done) (M.done k) c

abbrev pub Same : ℕ → ℕ → Out → Scan.Out M.St (List ℕ) → Type 0
Same base c o o' = Alike (StringIs base) (λ u m. length u ≡ m) base c o o'

-- ---- the marks

bad_now_lem : (base q : ℕ) (b : M.Bad) (h : M.Half) → C.bad_now (quoted q (bad_at base b) (half_at base h)) ≡ bad_at base (M.lost b h)
unfolding C.bad_now C.first_of
bad_now_lem base q b M.whole = refl
bad_now_lem base q M.fine (M.half at h) = simp (ne_eqb (base + at + 1) 0 (omega arith))
bad_now_lem base q (M.spoilt x) (M.half at h) = simp (ne_eqb (base + at + 1) 0 (omega arith), ne_eqb (base + x + 1) 0 (omega arith))

first_of_lem : (base : ℕ) (b : M.Bad) (at : ℕ) → C.first_of (bad_at base b) (base + at + 1) ≡ bad_at base (M.first b at)
unfolding C.first_of
first_of_lem base M.fine at = refl
first_of_lem base (M.spoilt x) at = simp (ne_eqb (base + x + 1) 0 (omega arith))

-- ---- tests that both make

module _ {base c : ℕ} where
  on : (t : Bool) {a b : Out} {a' b' : Scan.Out M.St (List ℕ)} → (t ≡ true → Same base c a a') → (t ≡ false → Same base c b b')
      → Same base c (cond t a b) (cond t a' b')
  on true f g = f refl
  on false f g = g refl

  into : (t : Bool) {a b : Out} {a' b' : M.Ctx} → Same base c a (Scan.takes (M.body a')) → Same base c b (Scan.takes (M.body b'))
      → Same base c (cond t a b) (Scan.takes (M.body (cond t a' b')))
  into true f g = f
  into false f g = g

-- ---- what an escape comes to

module _ (base : ℕ) (k : M.Ctx) (c : ℕ) (mark : Mark k.quote) (sum : length k.acc ≡ c) where
  still : length k.acc ≡ c + 0
  still = omega arith

  gives : (bs : List ℕ) (m : ℕ) → m ≡ length bs → Same base c (C.give (kept base k) m) (Scan.takes (M.body (M.give k bs)))
  gives bs m e =
      let more : length (k.acc ++ bs) ≡ c + m = omega (arith, length-append k.acc bs) in
      rw (bad_now_lem base k.quote k.bad k.high) (takes (is_body mark more))

  blames : (at : ℕ) → Same base c (C.blame (kept base k) (base + at + 1)) (Scan.takes (M.body (M.blame k at)))
  blames at = rw (bad_now_lem base k.quote k.bad k.high, first_of_lem base (M.bad_now k) at) (takes (is_body mark still))

  waits : (at h : ℕ) → Same base c (C.wait (kept base k) (base + at + 1)) (Scan.takes (M.body (M.wait k at h)))
  waits at h = rw (bad_now_lem base k.quote k.bad k.high) (takes (is_body mark still))

  alone_alike : (at w : ℕ) → Same base c (C.alone (kept base k) (base + at + 1) w) (Scan.takes (M.body (M.alone k at w)))
  unfolding C.alone M.alone
  alone_alike at w = into (ltb w 0xD800) (gives (encode w) _ refl)
      (into (ltb w 0xDC00) (waits at w) (into (ltb w 0xE000) (blames at) (gives (encode w) _ refl)))

  braces_same : (at w : ℕ) → Same base c (C.in_braces (kept base k) (base + at + 1) w) (Scan.takes (M.body (M.in_braces k at w)))
  unfolding C.in_braces M.in_braces
  braces_same at w = into (ltb w 0xD800) (gives (encode w) _ refl)
      (into (ltb w 0xE000) (blames at) (into (leb w 0x10FFFF) (gives (encode w) _ refl) (blames at)))

  braces_past : (at v w : ℕ) → 0x10FFFF < v → 0x10FFFF < w
      → Same base c (C.in_braces (kept base k) (base + at + 1) v) (Scan.takes (M.body (M.in_braces k at w)))
  unfolding C.in_braces M.in_braces
  braces_past at v w x y = rw (
    le-ltb v 0xD800 (omega arith),
    le-ltb v 0xE000 (omega arith),
    lt-leb v 0x10FFFF (omega arith),
    le-ltb w 0xD800 (omega arith),
    le-ltb w 0xE000 (omega arith),
    lt-leb w 0x10FFFF (omega arith),
  ) (blames at)

  braces_alike : (at v w : ℕ) → Like v w → Same base c (C.in_braces (kept base k) (base + at + 1) v) (Scan.takes (M.body (M.in_braces k at w)))
  braces_alike at v w (same e) = rw e (braces_same at w)
  braces_alike at v w (both x y) = braces_past at v w x y

joined_four : (h w : ℕ) → length (encode (joined h w)) ≡ 4
joined_four h w = rw (row_4 (joined h w) (omega arith))

unit_alike : (base q : ℕ) (b : M.Bad) (h : M.Half) (a : List ℕ) (c : ℕ) → Mark q → length a ≡ c → (at w : ℕ)
    → Same base c (C.unit (kept base (M.mk q b h a)) (base + at + 1) w) (Scan.takes (M.body (M.unit (M.mk q b h a) at w h)))
unfolding C.unit M.unit
unit_alike base q b M.whole a c mark sum at w = alone_alike base (M.mk q b M.whole a) c mark sum at w
unit_alike base q b (M.half from h) a c mark sum at w =
    let more : length (a ++ encode (joined h w)) ≡ c + 4 = omega (arith, length-append a (encode (joined h w)), joined_four h w) in
    let apart = alone_alike base (M.mk q b (M.half from h) a) c mark sum at w in
    rw (ne_eqb (base + from + 1) 0 (omega arith))
    (into (ltb w 0xDC00) apart
    (into (ltb w 0xE000) (takes (is_body mark more)) apart))

-- ---- digits

fits : (n v x : ℕ) → v < room n → 16 * (v % 4096) + x ≡ 16 * v + x
fits zero v x l = omega arith
fits (suc zero) v x l = omega arith
fits (suc (suc zero)) v x l = omega arith
fits (suc (suc (suc zero))) v x l = omega arith
fits (suc (suc (suc (suc n)))) v x l = omega arith

grows : (n v x : ℕ) → v < room (suc n) → x < 16 → 16 * v + x < room n
grows zero v x l m = omega arith
grows (suc zero) v x l m = omega arith
grows (suc (suc zero)) v x l m = omega arith
grows (suc (suc (suc n))) v x l m = omega arith

grown_to_lem : (v d : ℕ) → Grown v d (grown_to v d)
unfolding grown_to
grown_to_lem v d = by (ltb v 0x110000) refl
  where
    by : (t : Bool) → ltb v 0x110000 ≡ t → Grown v d (cond t (16 * v + d) 0x110000)
    by true e = grown_small v d (ltb-true _ _ e)
    by false e = grown_big v d (ltb-false _ _ e)

module _ (base : ℕ) (k : M.Ctx) (c : ℕ) (mark : Mark k.quote) (sum : length k.acc ≡ c) where
  hexed_alike : (at n v x : ℕ) → v < room n → x < no_digit
      → Same base c (C.hexed (kept base k) (base + at + 1) n (16 * v + x)) (Scan.takes (M.hexed k at n (16 * v + x)))
  unfolding C.hexed M.hexed
  hexed_alike at zero v x l m = unit_alike base k.quote k.bad k.high k.acc c mark sum at (16 * v + x)
  hexed_alike at (suc n) v x l m = takes (is_hex mark (grows n v x l m) (still base k c mark sum))

  hex_alike : (at n v p x : ℕ) → v < room n → Same base c (C.on_hex (kept base k) (base + at + 1) n v (base + p) x) (M.on_hex p k at n v x)
  unfolding C.on_hex M.on_hex
  hex_alike at n v p x l = rw (fits n v x l) (on (ltb x no_digit) (λ e. hexed_alike at n v x l (ltb-true _ _ e)) (λ e. breaks refl))

  brace_alike : (at v w p x : ℕ) → Like v w → Same base c (C.on_brace (kept base k) (base + at + 1) v (base + p) x) (M.on_brace p k at w x)
  unfolding C.on_brace M.on_brace
  brace_alike at v w p x l = on (ltb x no_digit) (λ e. takes (is_brace mark (grown_to_lem v x w l) (still base k c mark sum))) (λ e. breaks refl)

-- ---- short escapes, plain bytes, lines

small : (t : Bool) {x y : ℕ} → (x < no_short → x ≤ 0x7F) → (y < no_short → y ≤ 0x7F) → cond t x y < no_short → cond t x y ≤ 0x7F
small true f g = f
small false f g = g

short_small : (b : ℕ) → short_of b < no_short → short_of b ≤ 0x7F
unfolding short_of
short_small b =
    small (eqb b (ch "\"")) (λ l. omega arith)
    (small (eqb b (ch "'")) (λ l. omega arith)
    (small (eqb b (ch "\\")) (λ l. omega arith)
    (small (eqb b (ch "/")) (λ l. omega arith)
    (small (eqb b (ch "0")) (λ l. omega arith)
    (small (eqb b (ch "b")) (λ l. omega arith)
    (small (eqb b (ch "f")) (λ l. omega arith)
    (small (eqb b (ch "n")) (λ l. omega arith)
    (small (eqb b (ch "r")) (λ l. omega arith)
    (small (eqb b (ch "t")) (λ l. omega arith)
    (small (eqb b (ch "v")) (λ l. omega arith) (λ l. omega arith)))))))))))

short_one : (b : ℕ) → short_of b < no_short → 1 ≡ length (encode (short_of b))
short_one b l = rw (row_1 (short_of b) (short_small b l))

module _ (base : ℕ) (k : M.Ctx) (c : ℕ) (mark : Mark k.quote) (sum : length k.acc ≡ c) where
  short_alike : (p b : ℕ) → Same base c (C.on_short (kept base k) (base + p) (short_of b)) (M.on_short p k (short_of b))
  unfolding C.on_short M.on_short
  short_alike p b = on (ltb (short_of b) no_short) (λ e. gives base k c mark sum (encode (short_of b)) 1 (short_one b (ltb-true _ _ e))) (λ e. breaks refl)

  body_alike : (p b : ℕ) → Same base c (C.on_body (kept base k) (base + p) b) (M.on_body p k b)
  unfolding C.on_body M.on_body
  body_alike p b =
      on (eqb b (ch "\\")) (λ e. takes (is_escape mark (still base k c mark sum)))
      (λ e. on (eqb b k.quote) (λ e. takes (is_done (still base k c mark sum)))
      (λ e. on (plain_byte b) (λ e. gives base k c mark sum (b ∷ []) 1 refl) (λ e. breaks refl)))

module _ (base q : ℕ) (acc : List ℕ) (c held : ℕ) (mark : Mark q) (sum : length acc ≡ c + held) where
  quote_alike : (n : ℕ) → n ≤ 2
      → Same base c (cond (leb 2 n) (C.quotes (quoted q 0 0) Inner.Done held) (C.quotes (quoted q 0 0) (Inner.Lines (n + 1)) held))
      (Scan.takes (cond (eqb n 2) (M.done (M.mk q M.fine M.whole acc)) (M.lines q (suc n) acc)))
  quote_alike zero l = takes (is_lines {n = 1} mark (omega arith) sum)
  quote_alike (suc zero) l = takes (is_lines {n = 2} mark (omega arith) sum)
  quote_alike (suc (suc zero)) l = takes (is_done sum)
  quote_alike (suc (suc (suc n))) l = absurd (omega arith)

  lines_alike : (n p b : ℕ) → n ≤ 2 → Same base c (C.on_lines (quoted q 0 0) n held (base + p) b) (M.on_lines p q n acc b)
  unfolding C.on_lines M.on_lines
  lines_alike n p b l =
      let more : length (acc ++ (replicate n q ++ (b ∷ []))) ≡ c + (held + n % 4 + 1) = omega (
        arith,
        length-append acc (replicate n q ++ (b ∷ [])),
        length-append (replicate n q) (b ∷ []),
        length-replicate n q,
      ) in
      on (eqb b q) (λ e. quote_alike n l) (λ e. on (line_byte b) (λ e. takes (is_lines {n = 0} mark (omega arith) more)) (λ e. breaks refl))

-- ---- the closed part

closed_alike : (base q : ℕ) (b : M.Bad) (h : M.Half) (a : List ℕ) (c : ℕ) → length a ≡ c
    → Same base c (C.closed (kept base (M.mk q b h a))) (M.close a (M.lost b h))
unfolding C.closed
closed_alike base q b h a c sum = rw (bad_now_lem base q b h) (by (M.lost b h))
  where
    by : (x : M.Bad) → Same base c (cond (eqb (bad_at base x) 0) Stops (Breaks (BadEscape (bad_at base x - 1)))) (M.close a x)
    by M.fine = stops sum
    by (M.spoilt at) =
        let one : base + at + 1 - 1 ≡ base + at = omega arith in
        rw (ne_eqb (base + at + 1) 0 (omega arith)) (breaks (ap BadEscape one))

-- ---- a byte, the first byte, the text's end

pub strings_alike : (base : ℕ) (k : Quoted) (s : InnerOf.Inner) (st : M.St) (n p b : ℕ) → StringIs base (Quoting k s) st n → b < 256
    → base + p ≤ text_limit → Same base n (next_quoted k s (base + p) b) (M.scan p st b)
unfolding next_quoted M.scan C.on_opened
strings_alike base k s st n p b (is_one {q} mark) lt fit =
    on (eqb b q) (λ e. takes (is_two mark)) (λ e. body_alike base (M.mk q M.fine M.whole []) 0 mark refl p b)
strings_alike base k s st n p b (is_two {q} mark) lt fit = on (eqb b q) (λ e. takes (is_opened mark)) (λ e. stops refl)
strings_alike base k s st n p b (is_opened {q} mark) lt fit =
    on (eqb b (ch "\n")) (λ e. takes (is_lines {n = 0} mark (omega arith) refl))
    (λ e. on (eqb b (ch "\r")) (λ e. takes (is_cr mark)) (λ e. lines_alike base q [] 0 0 mark refl 0 p b (omega arith)))
strings_alike base k s st n p b (is_cr {q} mark) lt fit =
    on (eqb b (ch "\n")) (λ e. takes (is_lines {n = 0} mark (omega arith) refl)) (λ e. lines_alike base q (letters "\r") 0 1 mark refl 0 p b (omega arith))
strings_alike base k s st n p b (is_lines {q} {n = m} {acc = acc} mark l e) lt fit = lines_alike base q acc n 0 mark (omega arith) m p b l
strings_alike base k s st n p b (is_body {k = k'} mark e) lt fit = body_alike base k' n mark e p b
strings_alike base k s st n p b (is_escape {k = k'} {at} mark e) lt fit =
    on (eqb b (ch "u")) (λ u. takes (is_unicode mark (still base k' n mark e))) (λ u. short_alike base k' n mark e p b)
strings_alike base k s st n p b (is_unicode {k = k'} {at} mark e) lt fit =
    on (eqb b (ch "{")) (λ u. takes (is_brace_open mark (still base k' n mark e))) (λ u. hex_alike base k' n mark e at 3 0 p (hex_of b) (omega arith))
strings_alike base k s st n p b (is_hex {k = k'} {at} {n = m} {v} mark l e) lt fit = hex_alike base k' n mark e at m v p (hex_of b) l
strings_alike base k s st n p b (is_brace_open {k = k'} {at} mark e) lt fit = brace_alike base k' n mark e at 0 0 p (hex_of b) (same refl)
strings_alike base k s st n p b (is_brace {k = k'} {at} {v} {w} mark l e) lt fit =
    on (eqb b (ch "}")) (λ u. braces_alike base k' n mark e at v w l) (λ u. brace_alike base k' n mark e at v w p (hex_of b) l)
strings_alike base k s st n p b (is_done {k = k'} e) lt fit = closed_alike base k'.quote k'.bad k'.high k'.acc n e

pub strings_begin : (base p b : ℕ) → (b ≡ ch "\"") ⊎ (b ≡ ch "'") → Same base 0 (Takes (open_quote b) 0) (M.scan p M.begin b)
unfolding M.scan
strings_begin base p b (inl e) = let mark : Mark (ch "\"") = omega arith in rw e (takes (is_one mark))
strings_begin base p b (inr e) = let mark : Mark (ch "'") = omega arith in rw e (takes (is_one mark))

body_end : (p : ℕ) (k : M.Ctx) → Mark k.quote → M.on_body p k over ≡ M.on_body p k 0
unfolding M.on_body plain_byte
body_end p k mark = simp (ne_eqb over k.quote (omega arith), ne_eqb 0 k.quote (omega arith))

lines_end : (p q n : ℕ) (acc : List ℕ) → Mark q → M.on_lines p q n acc over ≡ M.on_lines p q n acc 0
unfolding M.on_lines line_byte
lines_end p q n acc mark = simp (ne_eqb over q (omega arith), ne_eqb 0 q (omega arith))

pub strings_end : {base : ℕ} {m : Mode} {st : M.St} {n : ℕ} (p : ℕ) → StringIs base m st n → M.scan p st over ≡ M.scan p st 0
unfolding M.scan hex_of short_of
strings_end p (is_one {q} mark) = rw (ne_eqb over q (omega arith), ne_eqb 0 q (omega arith)) (body_end p (M.mk q M.fine M.whole []) mark)
strings_end p (is_two {q} mark) = simp (ne_eqb over q (omega arith), ne_eqb 0 q (omega arith))
strings_end p (is_opened {q} mark) = lines_end p q 0 [] mark
strings_end p (is_cr {q} mark) = lines_end p q 0 (letters "\r") mark
strings_end p (is_lines {q} {n = m} {acc = acc} mark l e) = lines_end p q m acc mark
strings_end p (is_body {k} mark e) = body_end p k mark
strings_end p (is_escape mark e) = refl
strings_end p (is_unicode mark e) = refl
strings_end p (is_hex mark l e) = refl
strings_end p (is_brace_open mark e) = refl
strings_end p (is_brace mark l e) = refl
strings_end p (is_done e) = refl
