-- A string part from every state: what may still come without checks, what each byte does, and that some bytes finish a part. Assumes nothing.
use Prim.Native.Nat.{ℕ, zero, suc, ◌+◌, ◌*◌, ◌≤◌, ◌<◌}
use mathlib.Core.Path.{◌≡◌, refl, sym, ◌∙◌, ap, subst}
use mathlib.Core.Bool.{Bool, false, cond}
use mathlib.Core.Logic.{◌⊎◌, inl, inr}
use mathlib.Core.List.{List, [], ◌∷◌, ◌++◌, append_assoc}
use native.Mathlib.Omega.{arith}
use lib.Dec.{ltb}
use lib.ListN.{replicate}
use borrow.Author.Tests.{ne_eqb, le-ltb, lt-ltb}
use Rattle.rules.specs.Rfc3629.{Octets}
use Rattle.rules.proofs.Characters.{Each, all_none, all_more, each_join, after, split_ascii}
use Rattle.meaning.specs.declared.Refusal.TheVariants.{NotGrammar}
use Rattle.meaning.specs.Letters.{letters, ch}
use Rattle.grammar.specs.Characters.{Hexdig, Digits, Hexadecimal}
use Rattle.grammar.specs.Strings.{Quote, double, single, mark, three, Short, Escape, UpToTwo, Newline, NoNewline, StringPart}
use Rattle.machine.specs.Scan.{Out, takes, stops, breaks}
use Rattle.machine.specs.Strings as S
use Rattle.machine.specs.Strings.{St, Ctx, Bad, mk, bad_now, scan, start, one, two, lines0, lines_cr, lines, body, esc, uni, hex, brace0, brace, done, fine}
use Rattle.machine.specs.Strings.{spoilt, whole, hex_of, short_of}
use Rattle.machine.proofs.Runs.{OutIs, Steps}
use Rattle.machine.proofs.Strings.Raw.{Body, Lines, RawPart}
use Rattle.machine.proofs.Strings.Tests.{by_bool, by_eqb, by_ltb, hex_is, hex_ascii, short_is}
use Rattle.machine.proofs.Strings.Quotes.{mark_ascii}
use Rattle.machine.proofs.Strings.Ascii.{Ascii}
use Rattle.machine.proofs.Strings.Whole.{part_of, part_cut}
use Rattle.machine.proofs.Strings.Back.{plain_may, one_more, up_to_two, inner_return}
use Rattle.machine.proofs.Strings.Forward.{no_return}
use Rattle.machine.proofs.Refusals.Reason.{Three}
use Rattle.machine.proofs.Refusals.Chars.{unit_quote, braces_quote}

-- ---- what may still come, without checks; v, the value, does not matter

abbrev BodyBare : ℕ → List ℕ → Type 0
BodyBare q a = (j : Quote) → q ≡ mark j → (u : List ℕ) × Body false j a u

abbrev LinesBare : ℕ → ℕ → List ℕ → Type 0
LinesBare q n a = (j : Quote) → q ≡ mark j → n ≤ 2 → (u : List ℕ) × Lines j (replicate n q ++ a) u

abbrev pub PartBare : St → List ℕ → List ℕ → Type 0
PartBare start a v = (u : List ℕ) × RawPart false a u
PartBare (one q) a v = (j : Quote) → q ≡ mark j → (u : List ℕ) × RawPart false (mark j ∷ a) u
PartBare (two q) a v = (j : Quote) → q ≡ mark j → (u : List ℕ) × RawPart false (mark j ∷ mark j ∷ a) u
PartBare (lines0 q) a v = (j : Quote) → q ≡ mark j → (u : List ℕ) × RawPart false (three j ++ a) u
PartBare (lines_cr q) a v = (j : Quote) → q ≡ mark j → (u : List ℕ) × RawPart false (three j ++ (ch "\r" ∷ a)) u
PartBare (lines q n acc) a v = LinesBare q n a
PartBare (body k) a v = BodyBare k.quote a
PartBare (esc k at) a v = BodyBare k.quote (ch "\\" ∷ a)
PartBare (uni k at) a v = BodyBare k.quote (letters "\\u" ++ a)
PartBare (hex k at n x) a v = (ds : List ℕ) × (r : List ℕ) × (w : ℕ) × (a ≡ ds ++ r) × Digits Hexdig 16 (suc n) x ds w × BodyBare k.quote r
PartBare (brace0 k at) a v =
    (d : ℕ) × (ds : List ℕ) × (r : List ℕ) × (w : ℕ) × (a ≡ ds ++ (ch "}" ∷ r)) × Digits Hexdig 16 (suc d) 0 ds w × BodyBare k.quote r
PartBare (brace k at x) a v = (d : ℕ) × (ds : List ℕ) × (r : List ℕ) × (w : ℕ) × (a ≡ ds ++ (ch "}" ∷ r)) × Digits Hexdig 16 d x ds w × BodyBare k.quote r
PartBare (done k) a v = a ≡ []

abbrev Is : St → ℕ → Out St (List ℕ) → Type 0
Is = OutIs PartBare

-- ---- one byte back

escape_back : (q : ℕ) (e w : List ℕ) → Escape false e w → (r : List ℕ) → BodyBare q r → BodyBare q (ch "\\" ∷ (e ++ r))
escape_back q e w x r f j i = let t = f j i in (w ++ t.0, Body.escaped x t.1)

body_is : (p : ℕ) (k : Ctx) (b : ℕ) (s : St) → ((a v : List ℕ) → BodyBare k.quote (b ∷ a) → PartBare s (b ∷ a) v) → Is s b (S.on_body p k b)
unfolding S.on_body
body_is p k b s f =
    by_eqb (Is s b) b 0x5C _ _ (λ e a v h. f a v (rw e h)) λ n₁.
    by_eqb (Is s b) b k.quote _ _ (λ e a v h. let g : a ≡ [] = h in f a v (λ j i. ([], rw (e ∙ i, g) Body.closed))) λ n₂.
    by_bool (Is s b) (S.plain_byte b) _ _
    (λ e a v h. let m = plain_may b e in f a v (λ j i. let t = h j i in
    (b ∷ t.0, Body.plain (record { low = m.0; high = omega arith; no_back = n₁; no_end = λ z. n₂ (z ∙ sym i) }) t.1))) (λ e. tt)

lines_is : (p q n : ℕ) (acc : List ℕ) (b : ℕ) (s : St) → ((a v : List ℕ) → LinesBare q n (b ∷ a) → PartBare s (b ∷ a) v) → Is s b (S.on_lines p q n acc b)
unfolding S.on_lines
lines_is p q n acc b s f =
    by_eqb (Is s b) b q _ _
    (λ e. by_eqb (λ t. Is s b (takes t)) n 2 _ _ (λ m a v h. let g : a ≡ [] = h in f a v (λ j i l. ([], rw (m, e, i, g) Lines.shut)))
    (λ m a v h. f a v (λ j i l. let t = h j i (omega arith) in (t.0, rw e (rw (one_more n q a) at t.1))))) λ m.
    by_bool (Is s b) (S.line_byte b) _ _
    (λ e a v h. f a v (λ j i l. let t = h j i (omega arith) in
    (replicate n q ++ (b ∷ t.0), Lines.byte {s = replicate n q} (rw i (up_to_two n j l)) (record { no_end = λ z. m (z ∙ sym i); may = e }) t.1)))
    (λ e. tt)

digit_is : (s : St) (b : ℕ) (x y : Out St (List ℕ)) → (Hexdig b (hex_of b) → Is s b x) → Is s b y → Is s b (cond (ltb (hex_of b) 16) x y)
digit_is s b x y f g = by_ltb (Is s b) (hex_of b) 16 x y (λ l. f (hex_is b l)) (λ l. g)

close_is : (k : Ctx) (b : ℕ) (z : Bad) → Is (done k) b (S.close k.acc z)
close_is k b fine = refl
close_is k b (spoilt at) = tt

unit_back : (q w : ℕ) {ds : List ℕ} → Hexadecimal 4 ds w → (r : List ℕ) → BodyBare q r → BodyBare q (letters "\\u" ++ (ds ++ r))
unit_back q w x r f = escape_back q _ _ (Escape.unit x tt) r f

braces_back : (q d w : ℕ) (ds : List ℕ) → Hexadecimal (suc d) ds w → (r : List ℕ) → BodyBare q r → BodyBare q (letters "\\u{" ++ (ds ++ (ch "}" ∷ r)))
braces_back q d w ds x r f = rw (← append_assoc ds (letters "}") r) (escape_back q _ _ (Escape.braced x tt) r f)

moved : (q q' : ℕ) (r : List ℕ) → q ≡ q' → BodyBare q r → BodyBare q' r
moved q q' r e h j i = h j (e ∙ i)

pub bare_is : (p : ℕ) (s : St) (b : ℕ) → OutIs PartBare s b (scan p s b)
unfolding scan S.on_short S.on_hex S.hexed S.on_brace
bare_is p start b = by_eqb (Is start b) b 0x22 _ _ (λ e a v h. rw e (h double e)) λ n. by_eqb (Is start b) b 0x27 _ _ (λ e a v h. rw e (h single e)) (λ m. tt)
bare_is p (one q) b =
    by_eqb (Is (one q) b) b q _ _ (λ e a v h j i. rw (e ∙ i) (h j i))
    (λ n. body_is p (mk q fine whole []) b (one q) (λ a v h j i. let t = h j i in (t.0, RawPart.one_line j t.1)))
bare_is p (two q) b = by_eqb (Is (two q) b) b q _ _ (λ e a v h j i. rw (e ∙ i) (h j i)) (λ n j i. ([], RawPart.one_line j Body.closed))
bare_is p (lines0 q) b =
    by_eqb (Is (lines0 q) b) b 10 _ _ (λ e a v h j i. let t = h j i (omega arith) in rw e (t.0, RawPart.trimmed j Newline.line_feed t.1)) λ n.
    by_eqb (Is (lines0 q) b) b 13 _ _ (λ e a v h j i. rw e (h j i))
    (λ m. lines_is p q 0 [] b (lines0 q) (λ a v h j i. let t = h j i (omega arith) in (t.0, RawPart.multiline j t.1 (NoNewline.other_byte n m))))
bare_is p (lines_cr q) b =
    by_eqb (Is (lines_cr q) b) b 10 _ _ (λ e a v h j i. let t = h j i (omega arith) in rw e (t.0, RawPart.trimmed j Newline.return_line_feed t.1))
    (λ n. lines_is p q 0 (letters "\r") b (lines_cr q)
    (λ a v h j i. let t = h j i (omega arith) in (
      ch "\r" ∷ t.0,
      RawPart.multiline j (Lines.byte UpToTwo.no_quote (inner_return j) t.1)
          (NoNewline.return_before n),
    )))
bare_is p (lines q n acc) b = lines_is p q n acc b (lines q n acc) (λ a v h. h)
bare_is p (body k) b = body_is p k b (body k) (λ a v h. h)
bare_is p (esc k at) b =
    by_eqb (Is (esc k at) b) b 0x75 _ _ (λ e a v h. rw e h)
    (λ n. by_ltb (Is (esc k at) b) (short_of b) 256 _ _ (λ l a v h. escape_back k.quote (b ∷ []) (short_of b ∷ []) (Escape.short (short_is b l)) a h)
    (λ l. tt))
bare_is p (uni k at) b =
    by_eqb (Is (uni k at) b) b 0x7B _ _ (λ e a v h. rw (e, h.4) (braces_back k.quote h.0 h.3 h.1 h.5 h.2 h.6))
    (λ n. digit_is (uni k at) b _ _ (λ x a v h. rw h.3 (unit_back k.quote h.2 (Digits.next x h.4) h.1 h.5)) tt)
bare_is p (hex k at zero x) b =
    digit_is (hex k at zero x) b _ _ (λ d a v h. (
      b ∷ [],
      a,
      16 * x + hex_of b,
      refl,
      Digits.next d Digits.over,
      moved _ k.quote a
          (unit_quote k at (16 * x + hex_of b) k.high) h,
    )) tt
bare_is p (hex k at (suc n) x) b = digit_is (hex k at (suc n) x) b _ _ (λ d a v h. (b ∷ h.0, h.1, h.2, rw h.3, Digits.next d h.4, h.5)) tt
bare_is p (brace0 k at) b = digit_is (brace0 k at) b _ _ (λ d a v h. (h.0, b ∷ h.1, h.2, h.3, rw h.4, Digits.next d h.5, h.6)) tt
bare_is p (brace k at x) b =
    by_eqb (Is (brace k at x) b) b 0x7D _ _ (λ e a v h. (0, [], a, x, rw e, Digits.over, moved _ k.quote a (braces_quote k at x) h))
    (λ n. digit_is (brace k at x) b _ _ (λ d a v h. (suc h.0, b ∷ h.1, h.2, h.3, rw h.4, Digits.next d h.5, h.6)) tt)
bare_is p (done k) b = close_is k b (bad_now k)

-- ---- the opening quote of a state is a quote

abbrev IsMark : ℕ → Type 0
IsMark q = (j : Quote) × (q ≡ mark j)

abbrev Sane : St → Type 0
Sane start = Unit {0}
Sane (one q) = IsMark q
Sane (two q) = IsMark q
Sane (lines0 q) = IsMark q
Sane (lines_cr q) = IsMark q
Sane (lines q n acc) = IsMark q × (n ≤ 2)
Sane (body k) = IsMark k.quote
Sane (esc k at) = IsMark k.quote
Sane (uni k at) = IsMark k.quote
Sane (hex k at n x) = IsMark k.quote
Sane (brace0 k at) = IsMark k.quote
Sane (brace k at x) = IsMark k.quote
Sane (done k) = Unit {0}

-- no byte of a longer character leads here
abbrev pub Clean : St → Type 0
Clean (body k) = ⊥
Clean (lines q n acc) = ⊥
Clean start = Unit {0}
Clean (one q) = Unit {0}
Clean (two q) = Unit {0}
Clean (lines0 q) = Unit {0}
Clean (lines_cr q) = Unit {0}
Clean (esc k at) = Unit {0}
Clean (uni k at) = Unit {0}
Clean (hex k at n x) = Unit {0}
Clean (brace0 k at) = Unit {0}
Clean (brace k at x) = Unit {0}
Clean (done k) = Unit {0}

-- a part that has closed with a bad escape in it
abbrev pub Closed : St → Type 0
Closed s = (c : Ctx) × (q : ℕ) × (s ≡ done c) × (bad_now c ≡ spoilt q)

-- what each byte does: it leads to a sane state, by ASCII to a clean one; what breaks does so with 3, or has closed
abbrev pub Kept : ℕ → St → Out St (List ℕ) → Type 0
Kept b s (takes t) = Sane t × (Clean t → Ascii b)
Kept b s (stops v) = Unit {0}
Kept b s (breaks r) = Three r ⊎ Closed s

low : {q : ℕ} → IsMark q → Ascii q
low h = rw h.1 (mark_ascii h.0)

digit_low : (b : ℕ) → hex_of b < 16 → Ascii b
digit_low b l = let i = hex_ascii (hex_is b l) in omega arith

mark_by : (q q' : ℕ) → q' ≡ q → IsMark q → IsMark q'
mark_by q q' e h = (h.0, e ∙ h.1)

module _ (p b : ℕ) (s : St) where
  -- the outcome has it
  abbrev Has : Out St (List ℕ) → Type 0
  Has = Kept b s

  quits : Has (breaks (NotGrammar p))
  quits = inl (p, refl)

  kept_body : (k : Ctx) → IsMark k.quote → Has (S.on_body p k b)
  unfolding S.on_body
  kept_body k h =
      by_eqb Has b 0x5C _ _ (λ e. (h, λ c. omega arith)) λ n.
      by_eqb Has b k.quote _ _ (λ e. (tt, λ c. rw e (low h))) λ m.
      by_bool Has (S.plain_byte b) _ _ (λ e. (h, λ c. absurd c)) (λ e. quits)

  kept_lines : (q n : ℕ) (acc : List ℕ) → IsMark q → n ≤ 2 → Has (S.on_lines p q n acc b)
  unfolding S.on_lines
  kept_lines q n acc h l =
      by_eqb Has b q _ _ (λ e. by_eqb (λ t. Has (takes t)) n 2 _ _ (λ m. (tt, λ c. rw e (low h))) (λ m. ((h, omega arith), λ c. absurd c))) λ n.
      by_bool Has (S.line_byte b) _ _ (λ e. ((h, omega arith), λ c. absurd c)) (λ e. quits)

  kept_hex : (k : Ctx) (at n v : ℕ) → IsMark k.quote → Has (S.on_hex p k at n v (hex_of b))
  unfolding S.on_hex S.hexed
  kept_hex k at zero v h =
      by_ltb Has (hex_of b) 16 _ _ (λ l. (mark_by k.quote _ (unit_quote k at (16 * v + hex_of b) k.high) h, λ c. absurd c)) (λ l. quits)
  kept_hex k at (suc n) v h = by_ltb Has (hex_of b) 16 _ _ (λ l. (h, λ c. digit_low b l)) (λ l. quits)

  kept_brace : (k : Ctx) (at v : ℕ) → IsMark k.quote → Has (S.on_brace p k at v (hex_of b))
  unfolding S.on_brace
  kept_brace k at v h = by_ltb Has (hex_of b) 16 _ _ (λ l. (h, λ c. digit_low b l)) (λ l. quits)

  kept_close : (k : Ctx) (z : Bad) → s ≡ done k → bad_now k ≡ z → Has (S.close k.acc z)
  kept_close k fine e f = tt
  kept_close k (spoilt q) e f = inr (k, q, e, f)

pub kept : (p : ℕ) (s : St) (b : ℕ) → Sane s → Kept b s (scan p s b)
unfolding scan S.on_short
kept p start b h =
    by_eqb (Kept b start) b 0x22 _ _ (λ e. ((double, e), λ c. omega arith)) λ n.
    by_eqb (Kept b start) b 0x27 _ _ (λ e. ((single, e), λ c. omega arith)) (λ m. quits p b start)
kept p (one q) b h = by_eqb (Kept b (one q)) b q _ _ (λ e. (h, λ c. rw e (low h))) (λ n. kept_body p b (one q) (mk q fine whole []) h)
kept p (two q) b h = by_eqb (Kept b (two q)) b q _ _ (λ e. (h, λ c. rw e (low h))) (λ n. tt)
kept p (lines0 q) b h =
    by_eqb (Kept b (lines0 q)) b 10 _ _ (λ e. ((h, omega arith), λ c. absurd c)) λ n.
    by_eqb (Kept b (lines0 q)) b 13 _ _ (λ e. (h, λ c. omega arith)) (λ m. kept_lines p b (lines0 q) q 0 [] h (omega arith))
kept p (lines_cr q) b h =
    by_eqb (Kept b (lines_cr q)) b 10 _ _ (λ e. ((h, omega arith), λ c. absurd c)) (λ n. kept_lines p b (lines_cr q) q 0 (letters "\r") h (omega arith))
kept p (lines q n acc) b h = kept_lines p b (lines q n acc) q n acc h.0 h.1
kept p (body k) b h = kept_body p b (body k) k h
kept p (esc k at) b h =
    by_eqb (Kept b (esc k at)) b 0x75 _ _ (λ e. (h, λ c. omega arith))
    (λ n. by_ltb (Kept b (esc k at)) (short_of b) 256 _ _ (λ l. (h, λ c. absurd c)) (λ l. quits p b (esc k at)))
kept p (uni k at) b h = by_eqb (Kept b (uni k at)) b 0x7B _ _ (λ e. (h, λ c. omega arith)) (λ n. kept_hex p b (uni k at) k at 3 0 h)
kept p (hex k at n x) b h = kept_hex p b (hex k at n x) k at n x h
kept p (brace0 k at) b h = kept_brace p b (brace0 k at) k at 0 h
kept p (brace k at x) b h =
    by_eqb (Kept b (brace k at x)) b 0x7D _ _ (λ e. (mark_by k.quote _ (braces_quote k at x) h, λ c. absurd c)) (λ n. kept_brace p b (brace k at x) k at x h)
kept p (done k) b h = kept_close p b (done k) k (bad_now k) refl refl

pub steps_sane : {p : ℕ} {s s' : St} {a : List ℕ} → Steps scan p s a s' → Sane s → Sane s'
steps_sane Steps.stay h = h
steps_sane (Steps.eat {p = p} {b = b} {s = s} x e) h = steps_sane x (subst (Kept b s) e (kept p s b h)).0

-- ---- some bytes, all ASCII, finish it

abbrev Finish : St → Type 0
Finish s = (a : List ℕ) × PartBare s a [] × Each Ascii a

zeros : (n x : ℕ) → (ds : List ℕ) × (w : ℕ) × Digits Hexdig 16 n x ds w × Each Ascii ds
zeros zero x = ([], x, Digits.over, all_none)
zeros (suc n) x =
    let h = zeros n (16 * x + 0) in
    (ch "0" ∷ h.0, h.1, Digits.next (Hexdig.decimal {b = ch "0"} (omega arith)) h.2, all_more {b = ch "0"} (omega arith) h.3)

closed : (q : ℕ) → BodyBare q (q ∷ [])
closed q j i = ([], rw i Body.closed)

pub finish : (s : St) → Sane s → Finish s
finish start h = (letters "\"\"", ([], RawPart.one_line double Body.closed), all_more {b = 0x22} (omega arith) (all_more {b = 0x22} (omega arith) all_none))
finish (one q) h = (q ∷ [], (λ j i. ([], rw i (RawPart.one_line j Body.closed))), all_more (low h) all_none)
finish (two q) h = ([], (λ j i. ([], RawPart.one_line j Body.closed)), all_none)
finish (lines0 q) h = (
  q ∷ q ∷ q ∷ [],
  (λ j i. ([], rw i (RawPart.multiline j Lines.shut (NoNewline.other_byte (no_return j).0 (no_return j).1)))),
  all_more (low h)
      (all_more (low h) (all_more (low h) all_none)),
)
finish (lines_cr q) h = (
  q ∷ q ∷ q ∷ [],
  (λ j i. (
    letters "\r",
    rw i (RawPart.multiline j (Lines.byte UpToTwo.no_quote (inner_return j) Lines.shut)
        (NoNewline.return_before (no_return j).0)),
  )),
  all_more (low h) (all_more (low h) (all_more (low h) all_none)),
)
finish (lines q zero acc) h = (q ∷ q ∷ q ∷ [], (λ j i l. ([], rw i Lines.shut)), all_more (low h.0) (all_more (low h.0) (all_more (low h.0) all_none)))
finish (lines q (suc zero) acc) h = (q ∷ q ∷ [], (λ j i l. ([], rw i Lines.shut)), all_more (low h.0) (all_more (low h.0) all_none))
finish (lines q (suc (suc zero)) acc) h = (q ∷ [], (λ j i l. ([], rw i Lines.shut)), all_more (low h.0) all_none)
finish (lines q (suc (suc (suc n))) acc) h = absurd (omega (arith, h.1))
finish (body k) h = (k.quote ∷ [], closed k.quote, all_more (low h) all_none)
finish (esc k at) h = (
  ch "n" ∷ k.quote ∷ [],
  escape_back k.quote (letters "n") _ (Escape.short Short.line_feed) (k.quote ∷ []) (closed k.quote),
  all_more {b = ch "n"}
      (omega arith) (all_more (low h) all_none),
)
finish (uni k at) h =
    let z = zeros 4 0 in
    (z.0 ++ (k.quote ∷ []), unit_back k.quote z.1 z.2 (k.quote ∷ []) (closed k.quote), each_join z.3 (all_more (low h) all_none))
finish (hex k at n x) h =
    let z = zeros (suc n) x in
    (z.0 ++ (k.quote ∷ []), (z.0, k.quote ∷ [], z.1, refl, z.2, closed k.quote), each_join z.3 (all_more (low h) all_none))
finish (brace0 k at) h =
    let z = zeros 1 0 in
    let a : Each Ascii (ch "}" ∷ k.quote ∷ []) = all_more {b = ch "}"} (omega arith) (all_more (low h) all_none) in
    (z.0 ++ (ch "}" ∷ k.quote ∷ []), (0, z.0, k.quote ∷ [], z.1, refl, z.2, closed k.quote), each_join z.3 a)
finish (brace k at x) h =
    (ch "}" ∷ k.quote ∷ [], (0, [], k.quote ∷ [], x, refl, Digits.over, closed k.quote), all_more {b = ch "}"} (omega arith) (all_more (low h) all_none))
finish (done k) h = ([], refl, all_none)

-- ---- where a character may be cut

-- the last byte
abbrev LastLow : List ℕ → Type 0
LastLow a = (x : List ℕ) × (b : ℕ) × (a ≡ x ++ (b ∷ [])) × Ascii b

further : (b : ℕ) {c : ℕ} {a : List ℕ} → (c ∷ a ≡ []) ⊎ LastLow (c ∷ a) → (b ∷ c ∷ a ≡ []) ⊎ LastLow (b ∷ c ∷ a)
further b (inl e) = absurd (let z : ◌≡◌ {A = ℕ} 0 1 = cc in omega arith)
further b (inr h) = inr (b ∷ h.0, h.1, ap {B = List ℕ} (λ (x : List ℕ). b ∷ x) h.2, h.3)

pub steps_last : {p : ℕ} {s s' : St} {a : List ℕ} → Steps scan p s a s' → Sane s → Clean s' → (a ≡ []) ⊎ LastLow a
steps_last Steps.stay h c = inl refl
steps_last (Steps.eat {p = p} {b = b} {s = s} Steps.stay e) h c = inr ([], b, refl, (subst (Kept b s) e (kept p s b h)).1 c)
steps_last (Steps.eat {p = p} {b = b} {s = s} (Steps.eat x f) e) h c = further b (steps_last (Steps.eat x f) (subst (Kept b s) e (kept p s b h)).0 c)

-- a byte of a longer character is taken in the body and between lines
abbrev pub HighOut : Out St (List ℕ) → Type 0
HighOut (takes s) = Unit {0}
HighOut (stops v) = ⊥
HighOut (breaks r) = ⊥

pub clean_or_taken : (p : ℕ) (s : St) (b : ℕ) → Sane s → 0x80 ≤ b → b < 256 → Clean s ⊎ HighOut (scan p s b)
unfolding scan S.on_body S.on_lines S.plain_byte S.line_byte
clean_or_taken p (body k) b h l u =
    let i = low h in
    inr (rw (ne_eqb b 0x5C (λ e. omega arith), ne_eqb b k.quote (λ e. omega arith), le-ltb b 0x20 (omega arith), lt-ltb b 256 u) tt)
clean_or_taken p (lines q n acc) b h l u = let i = low h.0 in inr (rw (ne_eqb b q (λ e. omega arith), le-ltb b 0x20 (omega arith), lt-ltb b 256 u) tt)
clean_or_taken p start b h l u = inl tt
clean_or_taken p (one q) b h l u = inl tt
clean_or_taken p (two q) b h l u = inl tt
clean_or_taken p (lines0 q) b h l u = inl tt
clean_or_taken p (lines_cr q) b h l u = inl tt
clean_or_taken p (esc k at) b h l u = inl tt
clean_or_taken p (uni k at) b h l u = inl tt
clean_or_taken p (hex k at n x) b h l u = inl tt
clean_or_taken p (brace0 k at) b h l u = inl tt
clean_or_taken p (brace k at x) b h l u = inl tt
clean_or_taken p (done k) b h l u = inl tt

-- ---- a raw part in UTF-8 is a part

raw_begins : {k : Bool} {a u : List ℕ} → RawPart k a u → (q : Quote) × (r : List ℕ) × (a ≡ mark q ∷ r)
raw_begins (RawPart.one_line {a = a} q x) = (q, a, refl)
raw_begins (RawPart.multiline {a = a} q x n) = (q, mark q ∷ mark q ∷ a, refl)
raw_begins (RawPart.trimmed {n = n} {a = a} q x y) = (q, mark q ∷ mark q ∷ (n ++ a), refl)

pub raw_whole : {k : Bool} (f b r : List ℕ) {v : List ℕ} → RawPart k b v → Octets (f ++ (b ++ r)) → StringPart k b v
raw_whole f b r y o =
    let q = raw_begins y in
    let i = mark_ascii q.0 in
    let u : Octets f = split_ascii o f (mark q.0) (q.1 ++ r) (omega arith) (ap (λ (x : List ℕ). f ++ (x ++ r)) q.2) in
    part_of y (part_cut y r (after u (b ++ r) o)).0
