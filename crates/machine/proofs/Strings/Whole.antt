-- A raw string part whose bytes are UTF-8 is a string part of the rules; it ends where a character ends. Assumes nothing.
use Prim.Native.Nat.{ℕ, ◌≤◌, ◌<◌}
use mathlib.Core.Path.{◌≡◌, refl, sym, ◌∙◌, ap}
use mathlib.Core.Logic.{◌⊎◌, inl, inr}
use mathlib.Core.Bool.{Bool, true}
use mathlib.Core.List.{List, [], ◌∷◌, ◌++◌, append_assoc}
use native.Mathlib.Omega.{arith}
use native.Mathlib.Decide.{dec_lt}
use borrow.Author.Tests.{eqb-true}
use Rattle.rules.specs.Rfc3629.{In, Octets}
use Rattle.rules.proofs.Characters.{Each, all_none, all_more, each_join, High, same_head, same_tail, join, after, split_ascii}
use Rattle.meaning.specs.Letters.{ch}
use Rattle.grammar.specs.Characters.{Of, Among, Many}
use Rattle.grammar.specs.Strings.{Quote, mark, three, Chars, Quoted, Escape, unescaped, UpToTwo, source, MChar, Newline, NoNewline, StringPart}
use Rattle.machine.specs.Strings as S
use Rattle.machine.proofs.Strings.Raw.{Plain, Body, Lines, RawPart}
use Rattle.machine.proofs.Strings.Quotes.{mark_ascii, Between, plain_char, line_ranges, of_line}
use Rattle.machine.proofs.Strings.Tests.{by_ltb, by_eqb, short_of_lem}
use Rattle.machine.proofs.Strings.Ascii.{Ascii, ascii_octets, digits_ascii, Long, begins_with, ascii_among, long_among}

no_high : (q : Quote) {b : ℕ} → High b → mark q ≡ b → ⊥
no_high q h e = let i = mark_ascii q in omega arith

escape_ascii : {k : Bool} {e v : List ℕ} → Escape k e v → Each Ascii e
escape_ascii (Escape.short {b = b} x) = let i = short_of_lem x in all_more {b = b} (omega arith) all_none
escape_ascii (Escape.unit x s) = all_more {b = ch "u"} (omega arith) (digits_ascii x)
escape_ascii (Escape.pair x i y j) = all_more {b = ch "u"} (omega arith) (each_join
    (digits_ascii x) (all_more {b = ch "\\"} (omega arith) (all_more {b = ch "u"} (omega arith) (digits_ascii y))))
escape_ascii (Escape.braced x s) = all_more {b = ch "u"} (omega arith) (all_more {b = ch "{"} (omega arith)
    (each_join (digits_ascii x) (all_more {b = ch "}"} (omega arith) all_none)))

-- ---- one line

unescaped_high : (n : ℕ) → In 0x80 0x10FFFF n → Of unescaped n
unescaped_high n i = inr (inr (inr (inl (omega arith))))

abbrev One : Bool → Quote → List ℕ → List ℕ → Type 0
One k q a u = Chars (Among unescaped) (Escape k) q a u

wider : {q b : ℕ} → Plain q b → Between 0x10FFFF q b
wider x = record { low = x.low; high = omega arith; no_back = x.no_back; no_end = x.no_end }

-- behind bytes of a character that has begun, the rest t and its value
record Split (k : Bool) (q : Quote) (c t u : List ℕ) : Type 0 where
  value : List ℕ
  inner : List ℕ
  means : u ≡ c ++ value
  is : t ≡ inner ++ (mark q ∷ [])
  chars : One k q inner value

body_of : {k : Bool} {q : Quote} {a u : List ℕ} → Body k q a u → (c t : List ℕ) → a ≡ c ++ t → Each High c → Octets t → Split k q c t u
body_of Body.closed [] t e all_none o = record { value = []; inner = []; means = refl; is = sym e; chars = Chars.none }
body_of {q = q} Body.closed (d ∷ c) t e (all_more h z) o = absurd (no_high q h (same_head e))
body_of {k} {q} (Body.plain {b = b} {a = a} {u = u} x y) [] t e all_none o = go (λ c t e h o. body_of y c t e h o) (begins_with o b a (sym e))
  where
    go : ((c t : List ℕ) → a ≡ c ++ t → Each High c → Octets t → Split k q c t u) → (Ascii b × Octets a) ⊎ Long b a → Split k q [] t (b ∷ u)
    go f (inl i) =
        let s = f [] a refl all_none i.1 in
        record {
          value = b ∷ s.value;
          inner = b ∷ s.inner;
          means = rw s.means;
          is = sym e ∙ ap {B = List ℕ} (λ (l : List ℕ). b ∷ l) s.is;
          chars = plain_char q 0x10FFFF (wider x) (ascii_among unescaped b i.0) s.chars;
        }
    go f (inr l) =
        let s = f l.rest l.then l.is l.all l.good in
        record {
          value = (b ∷ l.rest) ++ s.value;
          inner = (b ∷ l.rest) ++ s.inner;
          means = rw s.means;
          is = sym e ∙ ap {B = List ℕ} (λ (l : List ℕ). b ∷ l) (l.is ∙ ap {B = List ℕ} (λ (z : List ℕ). l.rest ++ z) s.is
              ∙ sym (append_assoc l.rest s.inner (mark q ∷ [])));
          chars = Chars.plain (long_among unescaped l.char l.first unescaped_high) s.chars;
        }
body_of (Body.plain {b = b} x y) (d ∷ c) t e (all_more h z) o =
    let s = body_of y c t (same_tail e) z o in
    record { value = s.value; inner = s.inner; means = cc (same_head e, s.means); is = s.is; chars = s.chars }
body_of {q = q} (Body.escaped {e = w} {v = v} {a = a} x y) [] t e all_none o =
    let s = body_of y [] a refl all_none (after (ascii_octets (all_more {b = ch "\\"} (omega arith) (escape_ascii x))) a (rw (sym e) at o)) in
    record {
      value = v ++ s.value;
      inner = ch "\\" ∷ (w ++ s.inner);
      means = ap {B = List ℕ} (λ (z : List ℕ). v ++ z) s.means;
      is = sym e ∙ ap {B = List ℕ} (λ (z : List ℕ). ch "\\" ∷ (w ++ z)) s.is ∙ ap {B = List ℕ} (λ (z : List ℕ). ch "\\" ∷ z)
          (sym (append_assoc w s.inner (mark q ∷ [])));
      chars = Chars.escaped x s.chars;
    }
body_of (Body.escaped x y) (d ∷ c) t e (all_more h z) o = let f = same_head e in absurd (omega arith)

-- ---- several lines

line_may : (b : ℕ) → S.line_byte b ≡ true → (b ≡ ch "\t") ⊎ (b ≡ ch "\n") ⊎ (b ≡ ch "\r") ⊎ (0x20 ≤ b)
unfolding S.line_byte
line_may b =
    by_ltb Q b 0x20 _ _ (λ h.
    by_eqb Q b 9 _ _ (λ e z. inl e) λ n₁.
    by_eqb Q b 10 _ _ (λ e z. inr (inl e)) (λ n₂ z. inr (inr (inl (eqb-true b 13 z))))) (λ h z. inr (inr (inr h)))
  where
    Q : Bool → Type 0
    Q t = t ≡ true → (b ≡ ch "\t") ⊎ (b ≡ ch "\n") ⊎ (b ≡ ch "\r") ⊎ (0x20 ≤ b)

source_high : (q : Quote) (n : ℕ) → In 0x80 0x10FFFF n → Of (source q) n
source_high q n i = let m = mark_ascii q in of_line q n (inr (inr (inr (inr (inl (omega arith))))))

source_low : (q : Quote) (b : ℕ) → (b ≡ mark q → ⊥) → Ascii b → (b ≡ ch "\t") ⊎ (b ≡ ch "\n") ⊎ (b ≡ ch "\r") ⊎ (0x20 ≤ b) → Of (source q) b
source_low q b n i h = of_line q b (go h (dec_lt b (mark q)))
  where
    go : (b ≡ ch "\t") ⊎ (b ≡ ch "\n") ⊎ (b ≡ ch "\r") ⊎ (0x20 ≤ b) → Dec (b < mark q) → Of (line_ranges (mark q)) b
    go (inl e) d = inl (omega arith)
    go (inr (inl e)) d = inr (inl (omega arith))
    go (inr (inr (inl e))) d = inr (inr (inl (omega arith)))
    go (inr (inr (inr l))) (yes d) = inr (inr (inr (inl (omega arith))))
    go (inr (inr (inr l))) (no d) = inr (inr (inr (inr (inl (omega arith)))))

up_to_ascii : {q : Quote} {s : List ℕ} → UpToTwo q s → Each Ascii s
up_to_ascii UpToTwo.no_quote = all_none
up_to_ascii {q} UpToTwo.one_quote = all_more (mark_ascii q) all_none
up_to_ascii {q} UpToTwo.two_quotes = all_more (mark_ascii q) (all_more (mark_ascii q) all_none)

three_ascii : (q : Quote) → Each Ascii (three q)
three_ascii q = all_more (mark_ascii q) (all_more (mark_ascii q) (all_more (mark_ascii q) all_none))

-- behind bytes of a character that has begun, the rest t and its value
record Cut (q : Quote) (c t u : List ℕ) : Type 0 where
  value : List ℕ
  means : u ≡ c ++ value
  is : t ≡ value ++ three q
  chars : Many (MChar q) value

lines_of : {q : Quote} {a u : List ℕ} → Lines q a u → (c t : List ℕ) → a ≡ c ++ t → Each High c → Octets t → Cut q c t u
lines_of Lines.shut [] t e all_none o = record { value = []; means = refl; is = sym e; chars = Many.none }
lines_of {q} Lines.shut (d ∷ c) t e (all_more h z) o = absurd (no_high q h (same_head e))
lines_of {q} (Lines.byte {s = s} {a = a} {u = u} {b = b} m i y) [] t e all_none o =
    go (λ c t e h o. lines_of y c t e h o) (begins_with (after (ascii_octets (up_to_ascii m)) (b ∷ a) (rw (sym e) at o)) b a refl)
  where
    go : ((c t : List ℕ) → a ≡ c ++ t → Each High c → Octets t → Cut q c t u) → (Ascii b × Octets a) ⊎ Long b a → Cut q [] t (s ++ (b ∷ u))
    go f (inl k) =
        let r = f [] a refl all_none k.1 in
        record {
          value = (s ++ (b ∷ [])) ++ r.value;
          means = ap {B = List ℕ} (λ (z : List ℕ). s ++ (b ∷ z)) r.means ∙ simp append_assoc;
          is = sym e ∙ ap {B = List ℕ} (λ (z : List ℕ). s ++ (b ∷ z)) r.is ∙ simp append_assoc;
          chars = Many.more (MChar.m_char m (ascii_among (source q) b k.0 (source_low q b i.no_end k.0 (line_may b i.may)))) r.chars;
        }
    go f (inr l) =
        let r = f l.rest l.then l.is l.all l.good in
        record {
          value = (s ++ (b ∷ l.rest)) ++ r.value;
          means = ap {B = List ℕ} (λ (z : List ℕ). s ++ (b ∷ z)) r.means ∙ simp append_assoc;
          is = sym e ∙ ap {B = List ℕ} (λ (z : List ℕ). s ++ (b ∷ z)) (l.is ∙ ap {B = List ℕ} (λ (z : List ℕ). l.rest ++ z) r.is) ∙ simp append_assoc;
          chars = Many.more (MChar.m_char m (long_among (source q) l.char l.first (source_high q))) r.chars;
        }
lines_of (Lines.byte UpToTwo.no_quote i y) (d ∷ c) t e (all_more h z) o =
    let r = lines_of y c t (same_tail e) z o in
    record { value = r.value; means = cc (same_head e, r.means); is = r.is; chars = r.chars }
lines_of {q} (Lines.byte UpToTwo.one_quote i y) (d ∷ c) t e (all_more h z) o = absurd (no_high q h (same_head e))
lines_of {q} (Lines.byte UpToTwo.two_quotes i y) (d ∷ c) t e (all_more h z) o = absurd (no_high q h (same_head e))

-- ---- the whole part

newline_ascii : {n : List ℕ} → Newline n → Each Ascii n
newline_ascii Newline.line_feed = all_more {b = ch "\n"} (omega arith) all_none
newline_ascii Newline.return_line_feed = all_more {b = ch "\r"} (omega arith) (all_more {b = ch "\n"} (omega arith) all_none)

no_newline_front : (q : Quote) (u : List ℕ) → NoNewline (u ++ three q) → NoNewline u
no_newline_front q [] x = NoNewline.empty
no_newline_front q (b ∷ []) (NoNewline.other_byte h g) = NoNewline.other_byte h g
no_newline_front q (b ∷ []) (NoNewline.return_before h) = NoNewline.lone_return
no_newline_front q (b ∷ c ∷ u) (NoNewline.other_byte h g) = NoNewline.other_byte h g
no_newline_front q (b ∷ c ∷ u) (NoNewline.return_before h) = NoNewline.return_before h

one_line_of : {k : Bool} (q : Quote) {a u : List ℕ} → Split k q [] a u → StringPart k (mark q ∷ a) u
one_line_of q s = rw (s.is, s.means) (StringPart.one_line (Quoted.quoted q s.chars))

multiline_of : {k : Bool} (q : Quote) {a u : List ℕ} → Cut q [] a u → NoNewline a → StringPart k (three q ++ a) u
multiline_of q s n = rw (s.is, s.means) (StringPart.multiline q s.chars (no_newline_front q s.value (rw s.is at n)))

trimmed_of : {k : Bool} (q : Quote) {n a u : List ℕ} → Newline n → Cut q [] a u → StringPart k (three q ++ (n ++ a)) u
trimmed_of q x s = rw (s.is, s.means) (StringPart.trimmed q x s.chars)

pub part_of : {k : Bool} {a u : List ℕ} → RawPart k a u → Octets a → StringPart k a u
part_of (RawPart.one_line {a = a} q x) o = one_line_of q (body_of x [] a refl all_none (after (ascii_octets (all_more (mark_ascii q) all_none)) a o))
part_of (RawPart.multiline {a = a} q x n) o = multiline_of q (lines_of x [] a refl all_none (after (ascii_octets (three_ascii q)) a o)) n
part_of (RawPart.trimmed {n = n} {a = a} q x y) o =
    trimmed_of q x (lines_of y [] a refl all_none (after (ascii_octets (newline_ascii x)) a (after (ascii_octets (three_ascii q)) (n ++ a) o)))

-- ---- where it ends

abbrev Closed : List ℕ → Type 0
Closed a = (x : List ℕ) × (q : Quote) × (a ≡ x ++ (mark q ∷ []))

before : (b : List ℕ) {a : List ℕ} → Closed a → Closed (b ++ a)
before b c = (b ++ c.0, c.1, ap {B = List ℕ} (λ (z : List ℕ). b ++ z) c.2 ∙ sym (append_assoc b c.0 (mark c.1 ∷ [])))

body_closed : {k : Bool} {q : Quote} {a u : List ℕ} → Body k q a u → Closed a
body_closed {q = q} Body.closed = ([], q, refl)
body_closed (Body.plain {b = b} x y) = before (b ∷ []) (body_closed y)
body_closed (Body.escaped {e = e} x y) = before (ch "\\" ∷ e) (body_closed y)

lines_closed : {q : Quote} {a u : List ℕ} → Lines q a u → Closed a
lines_closed {q} Lines.shut = (mark q ∷ mark q ∷ [], q, refl)
lines_closed (Lines.byte {s = s} {b = b} m i y) = rw append_assoc at (before (s ++ (b ∷ [])) (lines_closed y))

raw_closed : {k : Bool} {a u : List ℕ} → RawPart k a u → Closed a
raw_closed (RawPart.one_line q x) = before (mark q ∷ []) (body_closed x)
raw_closed (RawPart.multiline q x n) = before (three q) (lines_closed x)
raw_closed (RawPart.trimmed {n = n} q x y) = before (three q) (before n (lines_closed y))

-- a part ends in a quote, which is ASCII: it ends where a character ends
pub part_cut : {k : Bool} {a u : List ℕ} → RawPart k a u → (r : List ℕ) → Octets (a ++ r) → Octets a × Octets r
part_cut {a = a} x r o =
    let c = raw_closed x in
    let b = mark c.1 in
    let i = mark_ascii c.1 in
    let f : Octets c.0 = split_ascii o c.0 b r (omega arith) (ap {B = List ℕ} (λ (z : List ℕ). z ++ r) c.2 ∙ append_assoc c.0 (b ∷ []) r) in
    let g : Octets a = rw c.2 (join f (ascii_octets (all_more i all_none))) in
    (g, after g r o)
