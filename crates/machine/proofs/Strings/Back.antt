-- What the string scanner takes is a raw string part with that value: what may still come, from each state, one byte back. Assumes nothing.
use Prim.Native.Nat.{ℕ, zero, suc, ◌+◌, ◌*◌, ◌≤◌, ◌<◌}
use mathlib.Core.Path.{◌≡◌, refl, sym, ◌∙◌, ap, subst}
use mathlib.Core.Logic.{inl, inr}
use mathlib.Core.Bool.{true, false, cond}
use mathlib.Core.List.{List, [], ◌∷◌, ◌++◌, append_assoc, append-nil}
use native.Mathlib.Omega.{arith}
use lib.Dec.{ltb}
use lib.ListN.{replicate}
use borrow.Author.Tests.{ltb-true}
use Rattle.rules.specs.Rfc3629.{In, Scalar, encode}
use Rattle.rules.proofs.Numbers.{row_1}
use Rattle.meaning.specs.Letters.{letters, ch}
use Rattle.grammar.specs.Characters.{Hexdig, Digits, Hexadecimal}
use Rattle.grammar.specs.Strings.{Quote, double, single, mark, three, joined, Escape, UpToTwo, Newline, NoNewline}
use Rattle.machine.specs.Scan.{Out, takes, over}
use Rattle.machine.specs.Strings as S
use Rattle.machine.specs.Strings.{St, Ctx, Bad, Half, mk, lost, bad_now, give, wait, blame, scan, start, one, two, lines0, lines_cr, lines, body, esc, uni}
use Rattle.machine.specs.Strings.{hex, brace0, brace, done, fine, spoilt, whole, half, hex_of, short_of, begin}
use Rattle.machine.proofs.Runs.{OutIs}
use Rattle.machine.proofs.Strings.Raw.{Plain, Body, Inner, Lines, RawPart}
use Rattle.machine.proofs.Strings.Tests.{by_bool, by_eqb, by_ltb, by_leb, hex_is, hex_small, over_is, short_is, short_of_lem}

-- ---- what may still come

abbrev pub Tail : Quote → List ℕ → List ℕ → List ℕ → Type 0
Tail j acc a v = (u : List ℕ) × Body true j a u × (acc ++ u ≡ v)

-- where a high surrogate waits, its low one
abbrev pub Halved : Half → Quote → List ℕ → List ℕ → List ℕ → Type 0
Halved whole j acc a v = Tail j acc a v
Halved (half from h) j acc a v =
    (ds : List ℕ) × (r : List ℕ) × (w : ℕ) × (a ≡ letters "\\u" ++ (ds ++ r)) × Hexadecimal 4 ds w × In 0xDC00 0xDFFF w
    × Tail j (acc ++ encode (joined h w)) r v

abbrev pub BodyRest : Ctx → List ℕ → List ℕ → Type 0
BodyRest k a v = (j : Quote) → k.quote ≡ mark j → (k.bad ≡ fine) × Halved k.high j k.acc a v

abbrev pub LinesRest : ℕ → ℕ → List ℕ → List ℕ → List ℕ → Type 0
LinesRest q n acc a v = (j : Quote) → q ≡ mark j → n ≤ 2 → (u : List ℕ) × Lines j (replicate n q ++ a) u × (acc ++ u ≡ v)

abbrev pub PartRest : St → List ℕ → List ℕ → Type 0
PartRest start a v = RawPart true a v
PartRest (one q) a v = (j : Quote) → q ≡ mark j → RawPart true (mark j ∷ a) v
PartRest (two q) a v = (j : Quote) → q ≡ mark j → RawPart true (mark j ∷ mark j ∷ a) v
PartRest (lines0 q) a v = (j : Quote) → q ≡ mark j → RawPart true (three j ++ a) v
PartRest (lines_cr q) a v = (j : Quote) → q ≡ mark j → RawPart true (three j ++ (ch "\r" ∷ a)) v
PartRest (lines q n acc) a v = LinesRest q n acc a v
PartRest (body k) a v = BodyRest k a v
PartRest (esc k at) a v = BodyRest k (ch "\\" ∷ a) v
PartRest (uni k at) a v = BodyRest k (letters "\\u" ++ a) v
PartRest (hex k at n x) a v = (ds : List ℕ) × (r : List ℕ) × (w : ℕ) × (a ≡ ds ++ r) × Digits Hexdig 16 (suc n) x ds w × BodyRest (S.unit k at w k.high) r v
PartRest (brace0 k at) a v = (d : ℕ) × (ds : List ℕ) × (r : List ℕ) × (w : ℕ) × (a ≡ ds ++ (ch "}" ∷ r)) × Digits Hexdig 16 (suc d) 0 ds w
    × BodyRest (S.in_braces k at w) r v
PartRest (brace k at x) a v = (d : ℕ) × (ds : List ℕ) × (r : List ℕ) × (w : ℕ) × (a ≡ ds ++ (ch "}" ∷ r)) × Digits Hexdig 16 d x ds w
    × BodyRest (S.in_braces k at w) r v
PartRest (done k) a v = (a ≡ []) × (k.acc ≡ v) × (bad_now k ≡ fine)

abbrev Is : St → ℕ → Out St (List ℕ) → Type 0
Is = OutIs PartRest

-- ---- in the body

spoilt_not : (b : Bad) (at : ℕ) → S.first b at ≡ fine → ⊥
spoilt_not fine at e = let z : ◌≡◌ {A = ℕ} 0 1 = cc in omega arith
spoilt_not (spoilt c) at e = let z : ◌≡◌ {A = ℕ} 0 1 = cc in omega arith

-- an escape of the rules
escape_back : (k : Ctx) (e w : List ℕ) → Escape true e w → (r v : List ℕ) → BodyRest (give k w) r v → BodyRest k (ch "\\" ∷ (e ++ r)) v
escape_back k e w x r v f j q = go k.high (f j q).0 (f j q).1
  where
    go : (h : Half) → lost k.bad h ≡ fine → Tail j (k.acc ++ w) r v → (k.bad ≡ fine) × Halved h j k.acc (ch "\\" ∷ (e ++ r)) v
    go whole b t = (b, (w ++ t.0, Body.escaped x t.1, rw append_assoc at t.2))
    go (half from h) b t = absurd (spoilt_not k.bad from b)

blame_back : (k : Ctx) (at : ℕ) (r v a : List ℕ) → BodyRest (blame k at) r v → BodyRest k a v
blame_back k at r v a f j q = absurd (spoilt_not (bad_now k) at (f j q).0)

plain_back : (k : Ctx) (b : ℕ) → Plain k.quote b → (r v : List ℕ) → BodyRest (give k (b ∷ [])) r v → BodyRest k (b ∷ r) v
plain_back k b x r v f j q = go k.high (f j q).0 (f j q).1
  where
    go : (h : Half) → lost k.bad h ≡ fine → Tail j (k.acc ++ (b ∷ [])) r v → (k.bad ≡ fine) × Halved h j k.acc (b ∷ r) v
    go whole e t = (e, (b ∷ t.0, Body.plain (rw q at x) t.1, rw append_assoc at t.2))
    go (half from h) e t = absurd (spoilt_not k.bad from e)

close_back : (k : Ctx) (b : ℕ) → b ≡ k.quote → (r v : List ℕ) → PartRest (done k) r v → BodyRest k (b ∷ r) v
close_back k b e r v f j q = go k.high f.2
  where
    go : (h : Half) → lost k.bad h ≡ fine → (k.bad ≡ fine) × Halved h j k.acc (b ∷ r) v
    go whole z = (z, ([], rw (e ∙ q, f.0) Body.closed, append-nil k.acc ∙ f.1))
    go (half from h) z = absurd (spoilt_not k.bad from z)

pub plain_may : (b : ℕ) → S.plain_byte b ≡ true → (0x20 ≤ b) × (b < over)
unfolding S.plain_byte
plain_may b = by_ltb (λ t. t ≡ true → (0x20 ≤ b) × (b < over)) b 0x20 _ _ (λ h e. let z : false ≡ true = e in absurd (no_way z)) (λ h e. (h, ltb-true b over e))
  where
    no_way : false ≡ true → ⊥
    no_way e = let z : ◌≡◌ {A = ℕ} 0 1 = cc in omega arith

-- in a state where the byte does what it does in the body
body_is : (p : ℕ) (k : Ctx) (b : ℕ) (s : St) → ((a v : List ℕ) → BodyRest k (b ∷ a) v → PartRest s (b ∷ a) v) → Is s b (S.on_body p k b)
unfolding S.on_body
body_is p k b s f =
    by_eqb (Is s b) b 0x5C _ _ (λ e a v h. f a v (rw e h)) λ n₁.
    by_eqb (Is s b) b k.quote _ _ (λ e a v h. f a v (close_back k b e a v h)) λ n₂.
    by_bool (Is s b) (S.plain_byte b) _ _
    (λ e a v h. let m = plain_may b e in f a v (plain_back k b (record { low = m.0; high = omega arith; no_back = n₁; no_end = n₂ }) a v h)) (λ e. tt)

-- ---- units

pub four_small : {a : List ℕ} {w : ℕ} → Hexadecimal 4 a w → w < 0x10000
four_small (Digits.next x₁ (Digits.next x₂ (Digits.next x₃ (Digits.next x₄ z)))) =
    omega (arith, (over_is z).1, hex_small x₁, hex_small x₂, hex_small x₃, hex_small x₄)

wait_back : (k : Ctx) (at w : ℕ) {ds : List ℕ} → Hexadecimal 4 ds w → In 0xD800 0xDBFF w → (r v : List ℕ) → BodyRest (wait k at w) r v
    → BodyRest k (letters "\\u" ++ (ds ++ r)) v
wait_back k at w {ds} x i r v f j q = go k.high (f j q).0 (f j q).1
  where
    go : (h : Half) → lost k.bad h ≡ fine → Halved (half at w) j k.acc r v → (k.bad ≡ fine) × Halved h j k.acc (letters "\\u" ++ (ds ++ r)) v
    go whole b t =
        let u = t.6 in (
          b,
          (
            encode (joined w t.2) ++ u.0,
            rw (t.3, ← append_assoc ds (letters "\\u" ++ t.0) t.1)
                (Body.escaped (Escape.pair x i t.4 t.5) u.1),
            rw append_assoc at u.2,
          ),
        )
    go (half from h) b t = absurd (spoilt_not k.bad from b)

alone_back : (k : Ctx) (at w : ℕ) {ds : List ℕ} → Hexadecimal 4 ds w → (r v : List ℕ) → BodyRest (S.alone k at w) r v
    → BodyRest k (letters "\\u" ++ (ds ++ r)) v
unfolding S.alone
alone_back k at w {ds} x r v =
    let s = four_small x in
    by_ltb Q w 0xD800 _ _ (λ h. escape_back k _ _ (Escape.unit x (record { top = omega arith; whole = inl h })) r v) λ h₁.
    by_ltb Q w 0xDC00 _ _ (λ h. wait_back k at w x (omega arith) r v) λ h₂.
    by_ltb Q w 0xE000 _ _ (λ h. blame_back k at r v _) (λ h. escape_back k _ _ (Escape.unit x (record { top = omega arith; whole = inr (omega arith) })) r v)
  where
    Q : Ctx → Type 0
    Q c = BodyRest c r v → BodyRest k (letters "\\u" ++ (ds ++ r)) v

unit_back : (k : Ctx) (at w : ℕ) {ds : List ℕ} → Hexadecimal 4 ds w → (r v : List ℕ) → BodyRest (S.unit k at w k.high) r v
    → BodyRest k (letters "\\u" ++ (ds ++ r)) v
unfolding S.unit
unit_back k at w {ds} x r v = go k.high
  where
    go : (h : Half) → BodyRest (S.unit (mk k.quote k.bad h k.acc) at w h) r v
        → BodyRest (mk k.quote k.bad h k.acc) (letters "\\u" ++ (ds ++ r)) v
    go whole = alone_back (mk k.quote k.bad whole k.acc) at w x r v
    go (half from h) =
        let k' = mk k.quote k.bad (half from h) k.acc in
        let Q : Ctx → Type 0 = λ c. BodyRest c r v → BodyRest k' (letters "\\u" ++ (ds ++ r)) v in
        by_ltb Q w 0xDC00 _ _ (λ l. alone_back k' at w x r v) λ l₁.
        by_ltb Q w 0xE000 _ _ (λ l f j q. ((f j q).0, (ds, r, w, refl, x, omega arith, (f j q).1))) (λ l. alone_back k' at w x r v)

braces_back : (k : Ctx) (at d w : ℕ) (ds : List ℕ) → Hexadecimal (suc d) ds w → (r v : List ℕ) → BodyRest (S.in_braces k at w) r v
    → BodyRest k (letters "\\u{" ++ (ds ++ (ch "}" ∷ r))) v
unfolding S.in_braces
braces_back k at d w ds x r v =
    by_ltb Q w 0xD800 _ _ (λ h. give_it (record { top = omega arith; whole = inl h })) λ h₁.
    by_ltb Q w 0xE000 _ _ (λ h. blame_back k at r v _) λ h₂.
    by_leb Q w 0x10FFFF _ _ (λ h. give_it (record { top = h; whole = inr (omega arith) })) (λ h. blame_back k at r v _)
  where
    Q : Ctx → Type 0
    Q c = BodyRest c r v → BodyRest k (letters "\\u{" ++ (ds ++ (ch "}" ∷ r))) v

    give_it : Scalar w → BodyRest (give k (encode w)) r v → BodyRest k (letters "\\u{" ++ (ds ++ (ch "}" ∷ r))) v
    give_it s f = rw (← append_assoc ds (letters "}") r) (escape_back k _ _ (Escape.braced x s) r v f)

-- ---- several lines

pub one_more : (n q : ℕ) (a : List ℕ) → replicate (suc n) q ++ a ≡ replicate n q ++ (q ∷ a)
one_more zero q a = refl
one_more (suc n) q a = ap {B = List ℕ} (λ (r : List ℕ). q ∷ r) (one_more n q a)

pub up_to_two : (n : ℕ) (j : Quote) → n ≤ 2 → UpToTwo j (replicate n (mark j))
up_to_two zero j h = UpToTwo.no_quote
up_to_two (suc zero) j h = UpToTwo.one_quote
up_to_two (suc (suc zero)) j h = UpToTwo.two_quotes
up_to_two (suc (suc (suc n))) j h = absurd (omega arith)

-- in a state where the byte does what it does between two lines' bytes
lines_is : (p q n : ℕ) (acc : List ℕ) (b : ℕ) (s : St) → ((a v : List ℕ) → LinesRest q n acc (b ∷ a) v → PartRest s (b ∷ a) v) → Is s b (S.on_lines p q n acc b)
unfolding S.on_lines
lines_is p q n acc b s f =
    by_eqb (Is s b) b q _ _
    (λ e. by_eqb (λ t. Is s b (takes t)) n 2 _ _ (λ m a v h. f a v (λ j i l. ([], rw (m, e, i, h.0) Lines.shut, append-nil acc ∙ h.1)))
    (λ m a v h. f a v (λ j i l. let t = h j i (omega arith) in (t.0, rw e (rw (one_more n q a) at t.1), t.2)))) λ m.
    by_bool (Is s b) (S.line_byte b) _ _
    (λ e a v h. f a v (λ j i l. let t = h j i (omega arith) in (
      replicate n q ++ (b ∷ t.0),
      Lines.byte {s = replicate n q} (rw i (up_to_two n j l)) (record { no_end = λ z. m (z ∙ sym i); may = e }) t.1,
      simp append_assoc at t.2,
    )))
    (λ e. tt)

-- ---- every state

digit_is : (s : St) (b : ℕ) (x y : Out St (List ℕ)) → (Hexdig b (hex_of b) → Is s b x) → Is s b y → Is s b (cond (ltb (hex_of b) 16) x y)
digit_is s b x y f g = by_ltb (Is s b) (hex_of b) 16 x y (λ l. f (hex_is b l)) (λ l. g)

pub inner_return : (j : Quote) → Inner (mark j) (ch "\r")
unfolding S.line_byte
inner_return double = record { no_end = omega arith; may = refl }
inner_return single = record { no_end = omega arith; may = refl }

close_is : (k : Ctx) (b : ℕ) (z : Bad) → bad_now k ≡ z → Is (done k) b (S.close k.acc z)
close_is k b fine e = (refl, refl, e)
close_is k b (spoilt at) e = tt

by_value : {a u v : List ℕ} → u ≡ v → RawPart true a u → RawPart true a v
by_value {a} e x = subst (RawPart true a) e x

pub part_is : (p : ℕ) (s : St) (b : ℕ) → OutIs PartRest s b (scan p s b)
unfolding scan S.on_short S.on_hex S.hexed S.on_brace
part_is p start b = by_eqb (Is start b) b 0x22 _ _ (λ e a v h. rw e (h double e)) λ n. by_eqb (Is start b) b 0x27 _ _ (λ e a v h. rw e (h single e)) (λ m. tt)
part_is p (one q) b =
    by_eqb (Is (one q) b) b q _ _ (λ e a v h j i. rw (e ∙ i) (h j i))
    (λ n. body_is p (mk q fine whole []) b (one q) (λ a v h j i. let t = (h j i).1 in by_value t.2 (RawPart.one_line j t.1)))
part_is p (two q) b = by_eqb (Is (two q) b) b q _ _ (λ e a v h j i. rw (e ∙ i) (h j i)) (λ n j i. RawPart.one_line j Body.closed)
part_is p (lines0 q) b =
    by_eqb (Is (lines0 q) b) b 10 _ _ (λ e a v h j i. let t = h j i (omega arith) in rw e (by_value t.2 (RawPart.trimmed j Newline.line_feed t.1))) λ n.
    by_eqb (Is (lines0 q) b) b 13 _ _ (λ e a v h j i. rw e (h j i))
    (λ m. lines_is p q 0 [] b (lines0 q) (λ a v h j i. let t = h j i (omega arith) in
    by_value t.2 (RawPart.multiline j t.1 (NoNewline.other_byte n m))))
part_is p (lines_cr q) b =
    by_eqb (Is (lines_cr q) b) b 10 _ _ (λ e a v h j i. let t = h j i (omega arith) in
    rw e (by_value t.2 (RawPart.trimmed j Newline.return_line_feed t.1)))
    (λ n. lines_is p q 0 (letters "\r") b (lines_cr q)
    (λ a v h j i. let t = h j i (omega arith) in by_value t.2 (RawPart.multiline j (Lines.byte UpToTwo.no_quote (inner_return j) t.1)
    (NoNewline.return_before n))))
part_is p (lines q n acc) b = lines_is p q n acc b (lines q n acc) (λ a v h. h)
part_is p (body k) b = body_is p k b (body k) (λ a v h. h)
part_is p (esc k at) b =
    by_eqb (Is (esc k at) b) b 0x75 _ _ (λ e a v h. rw e h)
    (λ n. by_ltb (Is (esc k at) b) (short_of b) 256 _ _
    (λ l a v h. let s = short_of_lem (short_is b l) in escape_back k (b ∷ []) (short_of b ∷ []) (Escape.short (short_is b l)) a v
    (rw (row_1 (short_of b) (omega arith)) at h)) (λ l. tt))
part_is p (uni k at) b =
    by_eqb (Is (uni k at) b) b 0x7B _ _ (λ e a v h. rw (e, h.4) (braces_back k at h.0 h.3 h.1 h.5 h.2 v h.6))
    (λ n. digit_is (uni k at) b _ _ (λ x a v h. rw h.3 (unit_back k at h.2 (Digits.next x h.4) h.1 v h.5)) tt)
part_is p (hex k at zero x) b = digit_is (hex k at zero x) b _ _ (λ d a v h. (b ∷ [], a, 16 * x + hex_of b, refl, Digits.next d Digits.over, h)) tt
part_is p (hex k at (suc n) x) b = digit_is (hex k at (suc n) x) b _ _ (λ d a v h. (b ∷ h.0, h.1, h.2, rw h.3, Digits.next d h.4, h.5)) tt
part_is p (brace0 k at) b = digit_is (brace0 k at) b _ _ (λ d a v h. (h.0, b ∷ h.1, h.2, h.3, rw h.4, Digits.next d h.5, h.6)) tt
part_is p (brace k at x) b =
    by_eqb (Is (brace k at x) b) b 0x7D _ _ (λ e a v h. (0, [], a, x, rw e, Digits.over, h))
    (λ n. digit_is (brace k at x) b _ _ (λ d a v h. (suc h.0, b ∷ h.1, h.2, h.3, rw h.4, Digits.next d h.5, h.6)) tt)
part_is p (done k) b = close_is k b (bad_now k) refl

pub raw_part : {a u : List ℕ} → PartRest begin a u → RawPart true a u
raw_part h = h
