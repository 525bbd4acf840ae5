-- Every string part of the rules is taken by the scanner, with its value. Assumes nothing.
use Prim.Native.Nat.{ℕ, suc, ◌+◌, ◌*◌, ◌≤◌, ◌<◌}
use mathlib.Core.Path.{◌≡◌, refl, sym, ◌∙◌, ap}
use mathlib.Core.Logic.{◌⊎◌, inl, inr}
use mathlib.Core.Bool.{true}
use mathlib.Core.List.{List, [], ◌∷◌, ◌++◌, append_assoc, append-nil}
use native.Mathlib.Omega.{arith}
use native.Mathlib.Decide.{dec_le}
use lib.ListN.{length, replicate}
use borrow.Author.Tests.{eq-eqb, ne_eqb, lt-ltb, le-ltb, le-leb}
use Rattle.rules.specs.Rfc3629.{In, Scalar, encode}
use Rattle.rules.proofs.Characters.{Each, all_none, all_more, each_map, High, long, sized}
use Rattle.rules.proofs.Numbers.{row_1, row_2, row_3, row_4, encoded}
use Rattle.meaning.specs.Letters.{letters, ch}
use Rattle.grammar.specs.Characters.{Of, Among, Many, Hexdig, Digits, Hexadecimal}
use Rattle.grammar.specs.Strings.{Quote, double, single, mark, other, three, Chars, Quoted, joined, Escape, unescaped, UpToTwo, source, MChar, Newline}
use Rattle.grammar.specs.Strings.{NoNewline, StringPart}
use Rattle.machine.specs.Scan.{Out, takes, over}
use Rattle.machine.specs.Strings as S
use Rattle.machine.specs.Strings.{St, Ctx, Half, mk, give, wait, scan, start, one, two, lines0, lines_cr, lines, body, esc, uni, hex, brace, done, fine}
use Rattle.machine.specs.Strings.{whole, half, hex_of, begin}
use Rattle.machine.proofs.Runs.{PartEnds, adv, Goes, took, halts, Steps, eats, steps_join, steps_go}
use Rattle.machine.proofs.Strings.Raw.{Plain, Inner}
use Rattle.machine.proofs.Strings.Quotes.{mark_ascii, mark_high, between, between_other, line_ranges, line_of}
use Rattle.machine.proofs.Strings.Tests.{hex_of_lem, hex_small, hex_ascii, short_of_lem, ends_all}

abbrev pub Run : ℕ → St → List ℕ → St → Type 0
Run = Steps scan

abbrev pub Ran : ℕ → St → List ℕ → List ℕ → Type 0
Ran = Goes scan PartEnds

-- ---- what may come after a part is no quote

no_quote : {b : ℕ} → PartEnds b → (b ≡ ch "\"" → ⊥) × (b ≡ ch "'" → ⊥)
no_quote = ends_all (λ b. (b ≡ ch "\"" → ⊥) × (b ≡ ch "'" → ⊥)) (omega arith)

pub no_mark : {b : ℕ} → PartEnds b → (q : Quote) → b ≡ mark q → ⊥
no_mark x double = (no_quote x).0
no_mark x single = (no_quote x).1

-- ---- the bytes of a character

long_encode : (n : ℕ) → 0x7F < n → 1 < length (encode n)
long_encode n h = go (dec_le n 0x7FF) (dec_le n 0xFFFF)
  where
    go : Dec (n ≤ 0x7FF) → Dec (n ≤ 0xFFFF) → 1 < length (encode n)
    go (yes a) b = rw (row_2 n h a) (omega arith)
    go (no a) (yes b) = rw (row_3 n (omega arith) b) (omega arith)
    go (no a) (no b) = rw (row_4 n (omega arith)) (omega arith)

pub encode_each : (P : ℕ → Type 0) (n : ℕ) → Scalar n → (n ≤ 0x7F → P n) → ((b : ℕ) → High b → P b) → Each P (encode n)
encode_each P n s f g = go (dec_le n 0x7F)
  where
    go : Dec (n ≤ 0x7F) → Each P (encode n)
    go (yes h) = rw (row_1 n h) (all_more (f h) all_none)
    go (no h) = each_map g (long (encoded n s) (long_encode n (omega arith)))

pub encode_some : (n : ℕ) → Scalar n → 0 < length (encode n)
encode_some n s = (sized (encoded n s)).some

pub record First (P : ℕ → Type 0) (c : List ℕ) : Type 0 where
  pub byte : ℕ
  pub rest : List ℕ
  pub is : c ≡ byte ∷ rest
  pub has : P byte
  pub all : Each P rest

pub first_of_lem : {P : ℕ → Type 0} {c : List ℕ} → Each P c → 0 < length c → First P c
first_of_lem all_none h = absurd (omega arith)
first_of_lem (all_more {b = b} {s = s} p x) h = record { byte = b; rest = s; is = refl; has = p; all = x }

-- ---- escapes

hex_step : {b x : ℕ} → Hexdig b x → (p : ℕ) (k : Ctx) (at n v : ℕ) → S.on_hex p k at n v (hex_of b) ≡ takes (S.hexed k at n (16 * v + x))
unfolding S.on_hex
hex_step {b} {x} h p k at n v = rw (hex_of_lem h, lt-ltb x 16 (hex_small h))

unit_steps : {n v w : ℕ} {a : List ℕ} → Digits Hexdig 16 (suc n) v a w → (p : ℕ) (k : Ctx) (at : ℕ) (s : Ctx) → S.unit k at w k.high ≡ s
    → Run p (hex k at n v) a (body s)
unfolding scan S.hexed
unit_steps (Digits.next {v = v} h Digits.over) p k at s e = eats scan Steps.stay (hex_step h p k at 0 v ∙ ap (λ (c : Ctx). takes (body c)) e)
unit_steps (Digits.next {v = v} h (Digits.next {n = n} g x)) p k at s e = eats scan (unit_steps (Digits.next g x) (suc p) k at s e)
    (hex_step h p k at (suc n) v)

pub uni_steps : {w : ℕ} {a : List ℕ} → Hexadecimal 4 a w → (p : ℕ) (k : Ctx) (at : ℕ) (s : Ctx) → S.unit k at w k.high ≡ s → Run p (uni k at) a (body s)
unfolding scan S.hexed
uni_steps (Digits.next {b = b} h x) p k at s e = let u = hex_ascii h in eats scan (unit_steps x (suc p) k at s e)
    (rw (ne_eqb b 0x7B (omega arith)) (hex_step h p k at 3 0))

alone_scalar : {w : ℕ} → Scalar w → (k : Ctx) (at : ℕ) → S.alone k at w ≡ give k (encode w)
unfolding S.alone
alone_scalar {w} s k at = go s.whole
  where
    go : (w < 0xD800) ⊎ (0xDFFF < w) → S.alone k at w ≡ give k (encode w)
    go (inl h) = rw (lt-ltb w 0xD800 h)
    go (inr h) = rw (le-ltb w 0xD800 (omega arith), le-ltb w 0xDC00 (omega arith), le-ltb w 0xE000 (omega arith))

unit_scalar : {w : ℕ} → Scalar w → (k : Ctx) (at : ℕ) (h : Half) → S.unit k at w h ≡ give k (encode w)
unfolding S.unit
unit_scalar s k at whole = alone_scalar s k at
unit_scalar {w} s k at (half from h) = go s.whole
  where
    go : (w < 0xD800) ⊎ (0xDFFF < w) → S.unit k at w (half from h) ≡ give k (encode w)
    go (inl l) = rw (lt-ltb w 0xDC00 (omega arith)) (alone_scalar s k at)
    go (inr l) = rw (le-ltb w 0xDC00 (omega arith), le-ltb w 0xE000 (omega arith)) (alone_scalar s k at)

pub unit_high : {w : ℕ} → In 0xD800 0xDBFF w → (k : Ctx) (at : ℕ) (h : Half) → S.unit k at w h ≡ wait k at w
unfolding S.unit S.alone
unit_high {w} i k at whole = rw (le-ltb w 0xD800 i.low, lt-ltb w 0xDC00 (omega arith))
unit_high {w} i k at (half from h) = rw (lt-ltb w 0xDC00 (omega arith), le-ltb w 0xD800 i.low)

unit_low : {w : ℕ} → In 0xDC00 0xDFFF w → (k : Ctx) (at from h : ℕ) → S.unit k at w (half from h) ≡ mk k.quote k.bad whole (k.acc ++ encode (joined h w))
unfolding S.unit
unit_low {w} i k at from h = rw (le-ltb w 0xDC00 i.low, lt-ltb w 0xE000 (omega arith))

braces_scalar : {w : ℕ} → Scalar w → (k : Ctx) (at : ℕ) → S.in_braces k at w ≡ give k (encode w)
unfolding S.in_braces
braces_scalar {w} s k at = go s.whole
  where
    go : (w < 0xD800) ⊎ (0xDFFF < w) → S.in_braces k at w ≡ give k (encode w)
    go (inl h) = rw (lt-ltb w 0xD800 h)
    go (inr h) = rw (le-ltb w 0xD800 (omega arith), le-ltb w 0xE000 (omega arith), le-leb w 0x10FFFF s.top)

pub brace_step : {b x : ℕ} → Hexdig b x → (p : ℕ) (k : Ctx) (at v : ℕ) → S.on_brace p k at v (hex_of b) ≡ takes (brace k at (16 * v + x))
unfolding S.on_brace
brace_step {b} {x} h p k at v = rw (hex_of_lem h, lt-ltb x 16 (hex_small h))

pub brace_steps : {n v w : ℕ} {a : List ℕ} → Digits Hexdig 16 n v a w → (p : ℕ) (k : Ctx) (at : ℕ) → Run p (brace k at v) a (brace k at w)
unfolding scan
brace_steps Digits.over p k at = Steps.stay
brace_steps (Digits.next {v = v} {b = b} h x) p k at = let u = hex_ascii h in eats scan (brace_steps x (suc p) k at)
    (rw (ne_eqb b 0x7D (omega arith)) (brace_step h p k at v))

pub back_step : (p : ℕ) (k : Ctx) → scan p (body k) (ch "\\") ≡ takes (esc k p)
unfolding scan S.on_body
back_step p k = refl

pub escape_steps : {e v : List ℕ} → Escape true e v → (p : ℕ) (k : Ctx) (at : ℕ) → Run p (esc k at) e (body (give k v))
unfolding scan S.on_short
escape_steps (Escape.short {b = b} {c = c} x) p k at =
    let u = short_of_lem x in
    eats scan Steps.stay (rw (ne_eqb b 0x75 u.1.no_u, u.0, lt-ltb c 256 (omega arith), row_1 c (omega arith)))
escape_steps (Escape.unit x s) p k at = eats scan (uni_steps x (suc p) k at _ (unit_scalar s k at k.high)) refl
escape_steps (Escape.pair {a = a} {b = b} {high = h} {low = l} x i y j) p k at =
    let q = adv (suc p) a in
    eats scan (steps_join scan (uni_steps x (suc p) k at (wait k at h) (unit_high i k at k.high))
    (eats scan (eats scan (uni_steps y (suc (suc q)) (wait k at h) q _ (unit_low j (wait k at h) q at h)) refl) (back_step q (wait k at h)))) refl
escape_steps (Escape.braced {n = w} (Digits.next {b = b} {a = a} h x) s) p k at =
    eats scan (eats scan (eats scan (steps_join scan (brace_steps x (suc (suc (suc p))) k at)
    (eats scan Steps.stay (ap (λ (c : Ctx). takes (body c)) (braces_scalar s k at)))) (brace_step h (suc (suc p)) k at 0)) refl) refl

-- ---- one line

abbrev pub clear : ℕ → List ℕ → Ctx
clear q acc = mk q fine whole acc

plain_step : {q b : ℕ} → Plain q b → (p : ℕ) (acc : List ℕ) → scan p (body (clear q acc)) b ≡ takes (body (clear q (acc ++ (b ∷ []))))
unfolding scan S.on_body S.plain_byte
plain_step {q} {b} x p acc = rw (ne_eqb b 0x5C x.no_back, ne_eqb b q x.no_end, le-ltb b 0x20 x.low, lt-ltb b 256 (omega arith))

plain_steps : {q : ℕ} {c : List ℕ} → Each (Plain q) c → (p : ℕ) (acc : List ℕ) → Run p (body (clear q acc)) c (body (clear q (acc ++ c)))
plain_steps all_none p acc = rw append-nil Steps.stay
plain_steps (all_more {b = b} x y) p acc = eats scan (rw append_assoc at (plain_steps y (suc p) (acc ++ (b ∷ [])))) (plain_step x p acc)

pub plain_each : (q : Quote) (n : ℕ) → Scalar n → Of unescaped n → Each (Plain (mark q)) (encode n)
plain_each q n s o = encode_each (Plain (mark q)) n s (λ h. let x = between q 0x10FFFF n (omega arith) o in omega arith)
    (λ b h. let i = mark_ascii q in omega arith)

pub chars_steps : {q : Quote} {a u : List ℕ} → Chars (Among unescaped) (Escape true) q a u → (p : ℕ) (acc : List ℕ)
    → Run p (body (clear (mark q) acc)) a (body (clear (mark q) (acc ++ u)))
chars_steps Chars.none p acc = rw append-nil Steps.stay
chars_steps {q} (Chars.plain (Among.character {n = n} s o) y) p acc =
    steps_join scan (plain_steps (plain_each q n s o) p acc) (rw append_assoc at (chars_steps y (adv p (encode n)) (acc ++ encode n)))
chars_steps {q} (Chars.escaped {e = e} {v = v} x y) p acc =
    eats scan (steps_join scan (escape_steps x (suc p) (clear (mark q) acc) p) (rw append_assoc at (chars_steps y (adv (suc p) e) (acc ++ v))))
    (back_step p (clear (mark q) acc))
chars_steps {q} (Chars.other_quote y) p acc =
    eats scan (rw append_assoc at (chars_steps y (suc p) (acc ++ (mark (other q) ∷ [])))) (plain_step (between_other q 0xFF (omega arith)) p acc)

-- where two states do the same with a byte
same : {p c : ℕ} {s s' : St} {a v : List ℕ} → scan p s c ≡ scan p s' c → Ran p s' (c ∷ a) v → Ran p s (c ∷ a) v
same e (Goes.goes k f) = Goes.goes k (e ∙ f)

further : {p c : ℕ} {s s' : St} {a v : List ℕ} → scan p s c ≡ takes s' → Ran p s (c ∷ a) v → Ran (suc p) s' a v
further e (Goes.goes k f) = rw (inside (sym f ∙ e)) at k
  where
    inside : {x y : St} → ◌≡◌ {A = Out St (List ℕ)} (takes x) (takes y) → x ≡ y
    inside h = cc

close_goes : (q : Quote) (p : ℕ) (acc : List ℕ) → Ran p (body (clear (mark q) acc)) (mark q ∷ []) acc
unfolding scan S.on_body
close_goes double p acc = took scan (halts scan (λ b e. refl)) refl
close_goes single p acc = took scan (halts scan (λ b e. refl)) refl

body_goes : {q : Quote} {a u : List ℕ} → Chars (Among unescaped) (Escape true) q a u → (p : ℕ) (acc : List ℕ)
    → Ran p (body (clear (mark q) acc)) (a ++ (mark q ∷ [])) (acc ++ u)
body_goes {q} {a} {u} x p acc = steps_go scan (chars_steps x p acc) (close_goes q (adv p a) (acc ++ u))

-- after the opening quote, a byte that is no quote does what it does in the body
pub one_step : {q b : ℕ} → (b ≡ q → ⊥) → (p : ℕ) → scan p (one q) b ≡ scan p (body (clear q [])) b
unfolding scan
one_step {q} {b} h p = rw (ne_eqb b q h)

-- the list begins with another byte
abbrev NotFirst : ℕ → List ℕ → Type 0
NotFirst q [] = ⊥
NotFirst q (b ∷ l) = b ≡ q → ⊥

one_as : {q p : ℕ} {v : List ℕ} (l : List ℕ) → NotFirst q l → Ran p (body (clear q [])) l v → Ran p (one q) l v
one_as [] h x = absurd h
one_as {p = p} (b ∷ l) h x = same (one_step h p) x

pub two_goes : (q : Quote) (p : ℕ) → Ran p (two (mark q)) [] []
unfolding scan
two_goes q p = halts scan (λ b e. rw (ne_eqb b (mark q) (no_mark e q)))

pub no_slash : (q : Quote) → ch "\\" ≡ mark q → ⊥
no_slash double = omega arith
no_slash single = omega arith

one_goes : {q : Quote} {a u : List ℕ} → Chars (Among unescaped) (Escape true) q a u → (p : ℕ) → Ran p (one (mark q)) (a ++ (mark q ∷ [])) u
unfolding scan
one_goes {q} Chars.none p = took scan {s' = two (mark q)} (two_goes q (suc p)) (rw (eq-eqb (mark q) (mark q) refl))
one_goes {q} (Chars.plain {a = a} (Among.character {n = n} s o) y) p =
    let f = first_of_lem (plain_each q n s o) (encode_some n s) in
    one_as ((encode n ++ a) ++ (mark q ∷ [])) (rw f.is f.has.no_end) (body_goes (Chars.plain (Among.character s o) y) p [])
one_goes {q} (Chars.escaped x y) p = same (one_step (no_slash q) p) (body_goes (Chars.escaped x y) p [])
one_goes {q} (Chars.other_quote y) p = same (one_step (between_other q 0xFF (omega arith)).no_end p) (body_goes (Chars.other_quote y) p [])

-- ---- several lines

line_high : (b : ℕ) → 0x20 ≤ b → b < over → S.line_byte b ≡ true
unfolding S.line_byte
line_high b l h = rw (le-ltb b 0x20 l, lt-ltb b 256 h)

line_low : (b : ℕ) → (b ≡ ch "\t") ⊎ (b ≡ ch "\n") ⊎ (b ≡ ch "\r") → S.line_byte b ≡ true
unfolding S.line_byte
line_low b (inl e) = rw e
line_low b (inr (inl e)) = rw e
line_low b (inr (inr e)) = rw e

-- tab, LF, CR, and from U+0020 up all but m
inner_of : (m n : ℕ) → 0x20 < m → Of (line_ranges m) n → n ≤ 0x7F → Inner m n
inner_of m n l (inl i) h = record { no_end = omega arith; may = line_low n (inl (omega arith)) }
inner_of m n l (inr (inl i)) h = record { no_end = omega arith; may = line_low n (inr (inl (omega arith))) }
inner_of m n l (inr (inr (inl i))) h = record { no_end = omega arith; may = line_low n (inr (inr (omega arith))) }
inner_of m n l (inr (inr (inr (inl i)))) h = record { no_end = omega arith; may = line_high n (omega arith) (omega arith) }
inner_of m n l (inr (inr (inr (inr (inl i))))) h = record { no_end = omega arith; may = line_high n (omega arith) (omega arith) }
inner_of m n l (inr (inr (inr (inr (inr i))))) h = elim i [ ]

inner_each : (q : Quote) (n : ℕ) → Scalar n → Of (source q) n → Each (Inner (mark q)) (encode n)
inner_each q n s o =
    encode_each (Inner (mark q)) n s (inner_of (mark q) n (mark_high q) (line_of q n o))
    (λ b h. let i = mark_ascii q in record { no_end = omega arith; may = line_high b (omega arith) (omega arith) })

line_step : {q b : ℕ} → Inner q b → (p n : ℕ) (acc : List ℕ) → scan p (lines q n acc) b ≡ takes (lines q 0 (acc ++ (replicate n q ++ (b ∷ []))))
unfolding scan S.on_lines
line_step {q} {b} x p n acc = rw (ne_eqb b q x.no_end, x.may)

quote_step : (q : Quote) (p : ℕ) (acc : List ℕ) → (scan p (lines (mark q) 0 acc) (mark q) ≡ takes (lines (mark q) 1 acc))
    × (scan p (lines (mark q) 1 acc) (mark q) ≡ takes (lines (mark q) 2 acc)) × (scan p (lines (mark q) 2 acc) (mark q) ≡ takes (done (clear (mark q) acc)))
unfolding scan S.on_lines
quote_step double p acc = (refl, refl, refl)
quote_step single p acc = (refl, refl, refl)

inner_steps : {q : ℕ} {c : List ℕ} → Each (Inner q) c → (p : ℕ) (acc : List ℕ) → Run p (lines q 0 acc) c (lines q 0 (acc ++ c))
inner_steps all_none p acc = rw append-nil Steps.stay
inner_steps (all_more {b = b} x y) p acc = eats scan (rw append_assoc at (inner_steps y (suc p) (acc ++ (b ∷ [])))) (line_step x p 0 acc)

-- the bytes of a character after n quotes
after_steps : {q : ℕ} {c : List ℕ} → First (Inner q) c → (p n : ℕ) (acc : List ℕ) → Run p (lines q n acc) c (lines q 0 (acc ++ (replicate n q ++ c)))
after_steps {q} f p n acc =
    let b = f.byte in
    rw f.is (eats scan (simp append_assoc at (inner_steps f.all (suc p) (acc ++ (replicate n q ++ (b ∷ []))))) (line_step f.has p n acc))

m_char_steps : {q : Quote} {c : List ℕ} → MChar q c → (p : ℕ) (acc : List ℕ) → Run p (lines (mark q) 0 acc) c (lines (mark q) 0 (acc ++ c))
m_char_steps {q} (MChar.m_char x (Among.character {n = n} s o)) p acc = go x
  where
    f : First (Inner (mark q)) (encode n)
    f = first_of_lem (inner_each q n s o) (encode_some n s)

    go : {t : List ℕ} → UpToTwo q t → Run p (lines (mark q) 0 acc) (t ++ encode n) (lines (mark q) 0 (acc ++ (t ++ encode n)))
    go UpToTwo.no_quote = after_steps f p 0 acc
    go UpToTwo.one_quote = eats scan (after_steps f (suc p) 1 acc) (quote_step q p acc).0
    go UpToTwo.two_quotes = eats scan (eats scan (after_steps f (suc (suc p)) 2 acc) (quote_step q (suc p) acc).1) (quote_step q p acc).0

many_steps : {q : Quote} {a : List ℕ} → Many (MChar q) a → (p : ℕ) (acc : List ℕ) → Run p (lines (mark q) 0 acc) a (lines (mark q) 0 (acc ++ a))
many_steps Many.none p acc = rw append-nil Steps.stay
many_steps (Many.more {c = c} x y) p acc = steps_join scan (m_char_steps x p acc) (rw append_assoc at (many_steps y (adv p c) (acc ++ c)))

three_goes : (q : Quote) (p : ℕ) (acc : List ℕ) → Ran p (lines (mark q) 0 acc) (three q) acc
unfolding scan
three_goes q p acc = took scan (took scan (took scan (halts scan (λ b e. refl)) (quote_step q (suc (suc p)) acc).2) (quote_step q (suc p) acc).1)
    (quote_step q p acc).0

lines_goes : {q : Quote} {a : List ℕ} → Many (MChar q) a → (p : ℕ) (acc : List ℕ) → Ran p (lines (mark q) 0 acc) (a ++ three q) (acc ++ a)
lines_goes {q} {a} x p acc = steps_go scan (many_steps x p acc) (three_goes q (adv p a) (acc ++ a))

-- right after the opening, a byte that begins no newline does what it does further on
opening_step : (q : ℕ) {b : ℕ} → (b ≡ ch "\n" → ⊥) → (b ≡ ch "\r" → ⊥) → (p : ℕ) → scan p (lines0 q) b ≡ scan p (lines q 0 []) b
unfolding scan
opening_step q {b} h g p = rw (ne_eqb b 10 h, ne_eqb b 13 g)

return_step : (q : ℕ) {b : ℕ} → (b ≡ ch "\n" → ⊥) → (p : ℕ) → scan p (lines_cr q) b ≡ scan p (lines q 0 (letters "\r")) b
unfolding scan
return_step q {b} h p = rw (ne_eqb b 10 h)

pub no_return : (q : Quote) → (mark q ≡ ch "\n" → ⊥) × (mark q ≡ ch "\r" → ⊥)
no_return double = omega arith
no_return single = omega arith

keep_return : (q : Quote) (p : ℕ) → scan p (lines (mark q) 0 []) (ch "\r") ≡ takes (lines (mark q) 0 (letters "\r"))
unfolding scan S.on_lines S.line_byte
keep_return double p = refl
keep_return single p = refl

to_return : (q p : ℕ) → scan p (lines0 q) (ch "\r") ≡ takes (lines_cr q)
unfolding scan
to_return q p = refl

opening_goes : (q : Quote) {a v : List ℕ} → NoNewline a → (p : ℕ) → Ran p (lines (mark q) 0 []) (a ++ three q) v → Ran p (lines0 (mark q)) (a ++ three q) v
opening_goes q NoNewline.empty p x = same (opening_step (mark q) (no_return q).0 (no_return q).1 p) x
opening_goes q (NoNewline.other_byte h g) p x = same (opening_step (mark q) h g p) x
opening_goes q NoNewline.lone_return p x = took scan (same (return_step (mark q) (no_return q).0 (suc p)) (further (keep_return q p) x))
    (to_return (mark q) p)
opening_goes q (NoNewline.return_before h) p x = took scan (same (return_step (mark q) h (suc p)) (further (keep_return q p) x)) (to_return (mark q) p)

opened : (q : Quote) {a v : List ℕ} (p : ℕ) → Ran (suc (suc (suc p))) (lines0 (mark q)) a v → Ran p start (three q ++ a) v
unfolding scan
opened double p x = took scan (took scan (took scan x refl) refl) refl
opened single p x = took scan (took scan (took scan x refl) refl) refl

-- the newline that the part loses
lost_newline : {n a v : List ℕ} {q : ℕ} → Newline n → ((p : ℕ) → Ran p (lines q 0 []) a v) → (p : ℕ) → Ran p (lines0 q) (n ++ a) v
unfolding scan
lost_newline Newline.line_feed x p = took scan (x (suc p)) refl
lost_newline Newline.return_line_feed x p = took scan (took scan (x (suc (suc p))) refl) refl

pub start_step : (q : Quote) (p : ℕ) → scan p start (mark q) ≡ takes (one (mark q))
unfolding scan
start_step double p = refl
start_step single p = refl

pub part_goes : {a u : List ℕ} → StringPart true a u → (p : ℕ) → Goes scan PartEnds p begin a u
part_goes (StringPart.one_line (Quoted.quoted q x)) p = took scan (one_goes x (suc p)) (start_step q p)
part_goes (StringPart.multiline q x y) p = opened q p (opening_goes q y _ (lines_goes x _ []))
part_goes (StringPart.trimmed q n x) p = opened q p (lost_newline n (λ r. lines_goes x r []) _)
