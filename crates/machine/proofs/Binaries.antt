-- The scanner of a binary part agrees with the rules. Assumes nothing.
use Prim.Native.Nat.{ℕ, suc, ◌+◌, ◌*◌}
use mathlib.Core.Path.{◌≡◌, refl, sym, ◌∙◌}
use mathlib.Core.List.{List, [], ◌∷◌, ◌++◌, append_assoc, append-nil}
use native.Mathlib.Omega.{arith}
use borrow.Author.Tests.{ne_eqb, lt-ltb, le-ltb, le-leb}
use Rattle.meaning.specs.Letters.{ch}
use Rattle.grammar.specs.Characters.{Hexdig, Digits, Hexadecimal}
use Rattle.grammar.specs.Characters as G
use Rattle.grammar.specs.Strings.{Quote, double, single, mark, other, Chars, Quoted}
use Rattle.grammar.specs.Binary.{BEscape, b_unescaped, BPart, BDirect, BValue}
use Rattle.machine.specs.Scan.{Out, takes, stops}
use Rattle.machine.specs.Strings.{hex_of, short_of}
use Rattle.machine.specs.Binaries.{St, start, dollar, text, esc, hex, hex_low, low, pairs, dot, done, begin, on_digit, on_short, on_text, scan}
use Rattle.machine.proofs.Runs.{PartEnds, adv, Goes, took, halts, Steps, eats, steps_join, steps_go, OutIs}
use Rattle.machine.proofs.Strings.Tests.{by_eqb, by_ltb, by_leb, hex_of_lem, hex_small, hex_ascii, hex_is, over_is, short_of_lem, short_is, ends_all}
use Rattle.machine.proofs.Strings.Quotes.{Between, between, between_other, plain_char}

abbrev Run : ℕ → St → List ℕ → St → Type 0
Run = Steps scan

abbrev Ran : ℕ → St → List ℕ → List ℕ → Type 0
Ran = Goes scan PartEnds

-- the rules of the quoted form
abbrev Inner : Quote → List ℕ → List ℕ → Type 0
Inner q a u = Chars (G.Ascii b_unescaped) BEscape q a u

-- ---- what may come after a part

dollar_ends : {b : ℕ} → PartEnds b → (p : ℕ) → scan p dollar b ≡ stops []
unfolding scan on_digit hex_of
dollar_ends e p = ends_all (λ b. scan p dollar b ≡ stops []) (refl, refl, refl, refl, refl, refl, refl, refl, refl, refl, refl, refl) e

pairs_ends : {b : ℕ} → PartEnds b → (p : ℕ) (acc : List ℕ) → scan p (pairs acc) b ≡ stops acc
unfolding scan on_digit hex_of
pairs_ends e p acc = ends_all (λ b. scan p (pairs acc) b ≡ stops acc) (refl, refl, refl, refl, refl, refl, refl, refl, refl, refl, refl, refl) e

-- ---- digits

digit_step : {b x : ℕ} → Hexdig b x → (next : ℕ → St) (instead : Out St (List ℕ)) → on_digit (hex_of b) next instead ≡ takes (next x)
unfolding on_digit
digit_step {b} {x} h next instead = rw (hex_of_lem h, lt-ltb x 16 (hex_small h))

pair_value : (x y : ℕ) → 16 * (16 * 0 + x) + y ≡ 16 * x + y
pair_value x y = omega arith

-- ---- the quoted form is taken

abbrev Plain : ℕ → ℕ → Type 0
Plain q b = Between 0x7E q b

plain_step : {q b : ℕ} → Plain q b → (p : ℕ) (acc : List ℕ) → scan p (text q acc) b ≡ takes (text q (acc ++ (b ∷ [])))
unfolding scan on_text
plain_step {q} {b} x p acc = rw (ne_eqb b 0x5C x.no_back, ne_eqb b q x.no_end, le-ltb b 0x20 x.low, le-leb b 0x7E x.high)

escape_steps : {e v : List ℕ} → BEscape e v → (p q : ℕ) (acc : List ℕ) → Run p (esc q acc) e (text q (acc ++ v))
unfolding scan on_short
escape_steps (BEscape.short {b = b} {c = c} x) p q acc =
    let u = short_of_lem x in
    eats scan Steps.stay (rw (ne_eqb b 0x78 u.1.no_x, u.0, lt-ltb c 256 (omega arith)))
escape_steps (BEscape.byte (Digits.next {x = x} h (Digits.next {x = y} g z))) p q acc =
    let e = over_is z in rw (e.0, e.1) (eats scan (eats scan (eats scan Steps.stay
    (digit_step g (λ y. text q (acc ++ ((16 * x + y) ∷ []))) _ ∙ rw (pair_value x y)))
    (digit_step h (hex_low q acc) _)) refl)

back_step : (p q : ℕ) (acc : List ℕ) → scan p (text q acc) (ch "\\") ≡ takes (esc q acc)
unfolding scan on_text
back_step p q acc = refl

chars_steps : {q : Quote} {a u : List ℕ} → Inner q a u → (p : ℕ) (acc : List ℕ) → Run p (text (mark q) acc) a (text (mark q) (acc ++ u))
chars_steps Chars.none p acc = rw append-nil Steps.stay
chars_steps {q} (Chars.plain (G.Ascii.byte {b = b} o) y) p acc = eats scan (rw append_assoc at (chars_steps y (suc p) (acc ++ (b ∷ []))))
    (plain_step (between q 0x7E b (omega arith) o) p acc)
chars_steps {q} (Chars.escaped {e = e} {v = v} x y) p acc =
    eats scan (steps_join scan (escape_steps x (suc p) (mark q) acc) (rw append_assoc at (chars_steps y (adv (suc p) e) (acc ++ v)))) (back_step p (mark q) acc)
chars_steps {q} (Chars.other_quote y) p acc = eats scan (rw append_assoc at (chars_steps y (suc p) (acc ++ (mark (other q) ∷ []))))
    (plain_step (between_other q 0x7E (omega arith)) p acc)

close_goes : (q : Quote) (p : ℕ) (acc : List ℕ) → Ran p (text (mark q) acc) (mark q ∷ []) acc
unfolding scan on_text
close_goes double p acc = took scan (halts scan (λ b e. refl)) refl
close_goes single p acc = took scan (halts scan (λ b e. refl)) refl

quoted_goes : {a u : List ℕ} → Quoted (G.Ascii b_unescaped) BEscape a u → (p : ℕ) → Ran p dollar a u
unfolding scan
quoted_goes (Quoted.quoted {a = a} {u = u} double x) p = took scan (steps_go scan (chars_steps x (suc p) []) (close_goes double (adv (suc p) a) u)) refl
quoted_goes (Quoted.quoted {a = a} {u = u} single x) p = took scan (steps_go scan (chars_steps x (suc p) []) (close_goes single (adv (suc p) a) u)) refl

-- ---- hex pairs are taken

-- in this state a digit begins a pair
abbrev Opens : St → List ℕ → Type 0
Opens s acc = (b x : ℕ) → Hexdig b x → (p : ℕ) → scan p s b ≡ takes (low acc x)

dollar_opens : Opens dollar []
unfolding scan
dollar_opens b x h p = let i = hex_ascii h in rw (ne_eqb b 0x22 (omega arith), ne_eqb b 0x27 (omega arith)) (digit_step h (low []) _)

hex_no_dot : {b x : ℕ} → Hexdig b x → b ≡ ch "." → ⊥
hex_no_dot h e = let i = hex_ascii h in omega arith

pairs_opens : (acc : List ℕ) → Opens (pairs acc) acc
unfolding scan
pairs_opens acc b x h p = rw (ne_eqb b 0x2E (hex_no_dot h)) (digit_step h (low acc) _)

dot_opens : (acc : List ℕ) → Opens (dot acc) acc
unfolding scan
dot_opens acc b x h p = digit_step h (low acc) _

pair_steps : {n : ℕ} {a : List ℕ} {s : St} {acc : List ℕ} → Hexadecimal 2 a n → Opens s acc → (p : ℕ) → Run p s a (pairs (acc ++ (n ∷ [])))
unfolding scan
pair_steps {acc = acc} (Digits.next {b = b} {x = x} h (Digits.next {x = y} g z)) f p =
    let e = over_is z in
    rw (e.0, e.1) (eats scan (eats scan Steps.stay (digit_step g (λ y. pairs (acc ++ ((16 * x + y) ∷ []))) _ ∙ rw (pair_value x y))) (f b x h p))

part_steps : {a u : List ℕ} → BPart a u → (s : St) (acc : List ℕ) → Opens s acc → (p : ℕ) → Run p s a (pairs (acc ++ u))
part_steps (BPart.last x) s acc f p = pair_steps x f p
part_steps (BPart.more {a = a} {n = n} x y) s acc f p =
    steps_join scan (pair_steps x f p) (rw append_assoc at (part_steps y (pairs (acc ++ (n ∷ []))) (acc ++ (n ∷ [])) (pairs_opens (acc ++ (n ∷ []))) (adv p a)))

dot_step : (p : ℕ) (acc : List ℕ) → scan p (pairs acc) (ch ".") ≡ takes (dot acc)
unfolding scan
dot_step p acc = refl

direct_goes : {a u : List ℕ} → BDirect a u → (s : St) (acc : List ℕ) → Opens s acc → (p : ℕ) → Ran p s a (acc ++ u)
direct_goes (BDirect.part {a = a} {u = u} x) s acc f p = rw append-nil at (steps_go scan (part_steps x s acc f p)
    (halts scan (λ b e. pairs_ends e (adv p a) (acc ++ u))))
direct_goes (BDirect.dotted {a = a} {u = u} x y) s acc f p =
    let q = adv p a in
    steps_go scan (part_steps x s acc f p) (took scan (rw append_assoc at (direct_goes y (dot (acc ++ u)) (acc ++ u) (dot_opens (acc ++ u)) (suc q)))
    (dot_step q (acc ++ u)))

pub binary_goes : {a u : List ℕ} → BValue a u → (p : ℕ) → Goes scan PartEnds p begin a u
unfolding scan
binary_goes BValue.empty p = took scan (halts scan (λ b e. dollar_ends e (suc p))) refl
binary_goes (BValue.string x) p = took scan (quoted_goes x (suc p)) refl
binary_goes (BValue.direct x) p = took scan (direct_goes x dollar [] dollar_opens (suc p)) refl

-- ---- what may still come

abbrev pub TextTail : Quote → List ℕ → List ℕ → List ℕ → Type 0
TextTail j acc a v = (i : List ℕ) × (u : List ℕ) × (a ≡ i ++ (mark j ∷ [])) × Inner j i u × (acc ++ u ≡ v)

-- after a pair: nothing, one more pair of the same part, or a dot
pub data AfterPair : List ℕ → List ℕ → Type 0 where
  over : AfterPair [] []
  pair : {d a u : List ℕ} {n : ℕ} → Hexadecimal 2 d n → AfterPair a u → AfterPair (d ++ a) (n ∷ u)
  dotted : {a u : List ℕ} → BDirect a u → AfterPair (ch "." ∷ a) u

abbrev pub PairsTail : List ℕ → List ℕ → List ℕ → Type 0
PairsTail acc a v = (u : List ℕ) × AfterPair a u × (acc ++ u ≡ v)

abbrev pub BinaryRest : St → List ℕ → List ℕ → Type 0
BinaryRest start a v = BValue a v
BinaryRest dollar a v = BValue (ch "$" ∷ a) v
BinaryRest (text q acc) a v = (j : Quote) → q ≡ mark j → TextTail j acc a v
BinaryRest (esc q acc) a v = (j : Quote) → q ≡ mark j → (e : List ℕ) × (w : List ℕ) × (r : List ℕ) × (a ≡ e ++ r) × BEscape e w × TextTail j (acc ++ w) r v
BinaryRest (hex q acc) a v = (j : Quote) → q ≡ mark j → (d : List ℕ) × (n : ℕ) × (r : List ℕ) × (a ≡ d ++ r) × Hexadecimal 2 d n
    × TextTail j (acc ++ (n ∷ [])) r v
BinaryRest (hex_low q acc x) a v = (j : Quote) → q ≡ mark j → (b : ℕ) × (y : ℕ) × (r : List ℕ) × (a ≡ b ∷ r) × Hexdig b y
    × TextTail j (acc ++ ((16 * x + y) ∷ [])) r v
BinaryRest (low acc x) a v = (b : ℕ) × (y : ℕ) × (r : List ℕ) × (a ≡ b ∷ r) × Hexdig b y × PairsTail (acc ++ ((16 * x + y) ∷ [])) r v
BinaryRest (pairs acc) a v = PairsTail acc a v
BinaryRest (dot acc) a v = (u : List ℕ) × BDirect a u × (acc ++ u ≡ v)
BinaryRest (done acc) a v = (a ≡ []) × (acc ≡ v)

abbrev Is : St → ℕ → Out St (List ℕ) → Type 0
Is = OutIs BinaryRest

-- ---- one byte back

two_digits : {b c x y : ℕ} → Hexdig b x → Hexdig c y → Hexadecimal 2 (b ∷ c ∷ []) (16 * x + y)
two_digits {b} {c} {x} {y} h g =
    let d : Hexadecimal 2 (b ∷ c ∷ []) (16 * (16 * 0 + x) + y) = Digits.next h (Digits.next g Digits.over) in
    rw (pair_value x y) at d

digit_is : (s : St) (b : ℕ) (next : ℕ → St) (y : Out St (List ℕ)) → (Hexdig b (hex_of b) → Is s b (takes (next (hex_of b)))) → Is s b y
    → Is s b (on_digit (hex_of b) next y)
unfolding on_digit
digit_is s b next y f g = by_ltb (Is s b) (hex_of b) 16 _ y (λ l. f (hex_is b l)) (λ l. g)

one_more_pair : {d a u : List ℕ} {n : ℕ} → Hexadecimal 2 d n → BDirect a u → BDirect (d ++ a) (n ∷ u)
one_more_pair x (BDirect.part y) = BDirect.part (BPart.more x y)
one_more_pair {d} x (BDirect.dotted {a = a} {b = b} y z) = rw append_assoc at (BDirect.dotted (BPart.more x y) z)

direct_of : {d a u : List ℕ} {n : ℕ} → Hexadecimal 2 d n → AfterPair a u → BDirect (d ++ a) (n ∷ u)
direct_of x AfterPair.over = rw append-nil (BDirect.part (BPart.last x))
direct_of x (AfterPair.pair y z) = one_more_pair x (direct_of y z)
direct_of x (AfterPair.dotted y) = BDirect.dotted (BPart.last x) y

joined_up : (e x t : List ℕ) {a r : List ℕ} → a ≡ e ++ r → r ≡ x ++ t → ch "\\" ∷ a ≡ (ch "\\" ∷ (e ++ x)) ++ t
joined_up e x t f g = rw (f, g, append_assoc e x t)

text_is : (p q : ℕ) (acc : List ℕ) (b : ℕ) → Is (text q acc) b (on_text p q acc b)
unfolding on_text
text_is p q acc b =
    by_eqb (Is (text q acc) b) b 0x5C _ _
    (λ e a v h j i. let t = h j i in let x = t.5 in (
      ch "\\" ∷ (t.0 ++ x.0),
      t.1 ++ x.1,
      rw e (joined_up t.0 x.0 (mark j ∷ []) t.3 x.2),
      Chars.escaped t.4 x.3,
      rw append_assoc at x.4,
    )) λ n.
    by_eqb (Is (text q acc) b) b q _ _ (λ e a v h j i. ([], [], rw (e ∙ i, h.0), Chars.none, append-nil acc ∙ h.1)) λ m.
    by_ltb (Is (text q acc) b) b 0x20 _ _ (λ l. tt) λ l.
    by_leb (Is (text q acc) b) b 0x7E _ _
    (λ u a v h j i. let t = h j i in (
      b ∷ t.0,
      b ∷ t.1,
      rw t.2,
      plain_char j 0x7E (record { low = l; high = u; no_back = n; no_end = λ z. m (z ∙ sym i) }) G.Ascii.byte t.3,
      rw append_assoc at t.4,
    )) (λ u. tt)

low_back : (acc : List ℕ) (b : ℕ) → Hexdig b (hex_of b) → (a v : List ℕ) → BinaryRest (low acc (hex_of b)) a v → (u : List ℕ) × BDirect (b ∷ a) u
    × (acc ++ u ≡ v)
low_back acc b d a v h =
    let t = h.5 in
    ((16 * hex_of b + h.1) ∷ t.0, rw h.3 (direct_of (two_digits d h.4) t.1), rw append_assoc at t.2)

pub binary_is : (p : ℕ) (s : St) (b : ℕ) → OutIs BinaryRest s b (scan p s b)
unfolding scan on_short
binary_is p start b = by_eqb (Is start b) b 0x24 _ _ (λ e a v h. rw e h) (λ n. tt)
binary_is p dollar b =
    by_eqb (Is dollar b) b 0x22 _ _ (λ e a v h. let t = h double e in rw (e, t.2, ← t.4) (BValue.string (Quoted.quoted double t.3))) λ n.
    by_eqb (Is dollar b) b 0x27 _ _ (λ e a v h. let t = h single e in rw (e, t.2, ← t.4) (BValue.string (Quoted.quoted single t.3)))
    (λ m. digit_is dollar b (low []) _ (λ d a v h. let t = low_back [] b d a v h in rw (← t.2) (BValue.direct t.1)) BValue.empty)
binary_is p (text q acc) b = text_is p q acc b
binary_is p (esc q acc) b =
    by_eqb (Is (esc q acc) b) b 0x78 _ _ (λ e a v h j i. let t = h j i in (ch "x" ∷ t.0, t.1 ∷ [], t.2, rw (e, t.3), BEscape.byte t.4, t.5))
    (λ n. by_ltb (Is (esc q acc) b) (short_of b) 256 _ _ (λ l a v h j i. (b ∷ [], short_of b ∷ [], a, refl, BEscape.short (short_is b l), h j i)) (λ l. tt))
binary_is p (hex q acc) b =
    digit_is (hex q acc) b (hex_low q acc) _
    (λ d a v h j i. let t = h j i in (b ∷ t.0 ∷ [], 16 * hex_of b + t.1, t.2, rw t.3, two_digits d t.4, t.5)) tt
binary_is p (hex_low q acc x) b = digit_is (hex_low q acc x) b _ _ (λ d a v h j i. (b, hex_of b, a, refl, d, h j i)) tt
binary_is p (low acc x) b = digit_is (low acc x) b _ _ (λ d a v h. (b, hex_of b, a, refl, d, h)) tt
binary_is p (pairs acc) b =
    by_eqb (Is (pairs acc) b) b 0x2E _ _ (λ e a v h. (h.0, rw e (AfterPair.dotted h.1), h.2))
    (λ n. digit_is (pairs acc) b (low acc) _
    (λ d a v h. let t = h.5 in ((16 * hex_of b + h.1) ∷ t.0, rw h.3 (AfterPair.pair (two_digits d h.4) t.1), rw append_assoc at t.2))
    ([], AfterPair.over, append-nil acc))
binary_is p (dot acc) b = digit_is (dot acc) b (low acc) _ (λ d a v h. low_back acc b d a v h) tt
binary_is p (done acc) b = (refl, refl)

pub binary_of : {a u : List ℕ} → BinaryRest begin a u → BValue a u
binary_of h = h

-- ---- its bytes

pub binary_begins : {a u : List ℕ} → BValue a u → (r : List ℕ) × (a ≡ ch "$" ∷ r)
binary_begins BValue.empty = ([], refl)
binary_begins (BValue.string {a = a} x) = (a, refl)
binary_begins (BValue.direct {a = a} x) = (a, refl)
