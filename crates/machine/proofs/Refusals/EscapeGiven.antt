-- 4, from the grammar to the machine: a part that closes, good up to a backslash behind which no good escape stands, is refused there.
-- Assumes nothing.
use Prim.Native.Nat.{ℕ, suc, ◌+◌, ◌≤◌, ◌<◌}
use mathlib.Core.Path.{◌≡◌, refl, sym, ap, ◌∙◌, subst}
use mathlib.Core.Bool.{Bool, true, false}
use mathlib.Core.Logic.{◌⊎◌, inl, inr}
use mathlib.Core.List.{List, [], ◌∷◌, ◌++◌, append_assoc}
use native.Mathlib.Omega.{arith}
use native.Mathlib.Decide.{dec_lt}
use lib.Dec.{ltb, leb}
use lib.ListN.{length}
use borrow.Author.Tests.{lt-ltb, le-ltb}
use Rattle.rules.specs.Rfc3629.{In, Scalar}
use Rattle.rules.proofs.Characters.{same_head}
use Rattle.meaning.specs.declared.Refusal.TheVariants.{BadEscape}
use Rattle.meaning.specs.Letters.{letters, ch}
use Rattle.grammar.specs.Characters.{Among, Hexadecimal}
use Rattle.grammar.specs.Strings.{Quote, mark, other, Chars, Escape}
use Rattle.grammar.specs.Values.{elements, members}
use Rattle.machine.specs.Scan.{Out}
use Rattle.machine.specs.Machine
use Rattle.machine.specs.Machine.{Use, Got, Base, base, item, Frame, inside, read, lift, on_out, No, reading}
use Rattle.machine.specs.Strings as S
use Rattle.machine.specs.Strings.{St, Ctx, Half, Bad, give, wait, blame, bad_now, lost, first, scan, begin, done, spoilt, fine, whole, half}
use Rattle.grammar.specs.Refused.{Spot, value, part, among, Left}
use Rattle.machine.proofs.Runs.{adv, Steps}
use Rattle.machine.proofs.Complete.{begun, StartsString, starts_string, quote_class}
use Rattle.machine.proofs.Whole.{absorbing}
use Rattle.machine.proofs.Strings.Tests.{either, by_ltb, by_leb}
use Rattle.machine.proofs.Strings.Back.{four_small}
use Rattle.machine.proofs.Strings.Forward.{first_of_lem, encode_some, plain_each, no_slash, clear}
use Rattle.machine.proofs.Refusals.Chars.{CharsOf, NoEscape, Low, escape_ctx, chars_ctx, first_char, NotFirst, part_run}
use Rattle.machine.proofs.Refusals.Left.{Stood, left_stood}
use Rattle.machine.proofs.Refusals.Refuses.{init, adv_length}

-- ---- a bad escape stays

-- before the bytes a the first bad escape is the one at this backslash: it is known, or a high surrogate that its low one does not follow
record Spoilt (at : ℕ) (c : Ctx) (a : List ℕ) : Type 0 where
  now : bad_now c ≡ spoilt at
  known : (t : List ℕ) → Low a t → c.bad ≡ spoilt at

module _ (at : ℕ) where
  -- the bad escape that is known is the one at this backslash
  abbrev Known : Ctx → Type 0
  Known c = c.bad ≡ spoilt at

  first_stays : (p : ℕ) {z : Bad} → z ≡ spoilt at → first z p ≡ spoilt at
  first_stays p e = rw e

  lost_stays : (h : Half) {z : Bad} → z ≡ spoilt at → lost z h ≡ spoilt at
  lost_stays whole e = e
  lost_stays (half p w) e = first_stays p e

  known_now : (c : Ctx) → Known c → bad_now c ≡ spoilt at
  known_now c e = lost_stays c.high e

  known_spoilt : (c : Ctx) → Known c → (a : List ℕ) → Spoilt at c a
  known_spoilt c e a = record { now = known_now c e; known = λ t l. e }

  alone_known : (c : Ctx) (p w : ℕ) → bad_now c ≡ spoilt at → Known (S.alone c p w)
  unfolding S.alone
  alone_known c p w e = either Known (ltb w 0xD800) e (either Known (ltb w 0xDC00) e (either Known (ltb w 0xE000) (first_stays p e) e))

  braces_known : (c : Ctx) (p w : ℕ) → bad_now c ≡ spoilt at → Known (S.in_braces c p w)
  unfolding S.in_braces
  braces_known c p w e = either Known (ltb w 0xD800) e (either Known (ltb w 0xE000) (first_stays p e) (either Known (leb w 0x10FFFF) e (first_stays p e)))

  -- only a low surrogate takes a high one that waits
  unit_known : (c : Ctx) (p w : ℕ) (h : Half) → bad_now c ≡ spoilt at → (In 0xDC00 0xDFFF w → Known c) → Known (S.unit c p w h)
  unfolding S.unit
  unit_known c p w whole e f = alone_known c p w e
  unit_known c p w (half from h) e f =
      by_ltb Known w 0xDC00 _ _ (λ l. alone_known c p w e) λ l. by_ltb Known w 0xE000 _ _ (λ m. f (omega arith)) (λ m. alone_known c p w e)

  -- after an escape it is known
  escape_known : {k : Bool} {e v : List ℕ} (x : Escape k e v) (a : List ℕ) (p : ℕ) (c : Ctx) → Spoilt at c (ch "\\" ∷ (e ++ a)) → Known (escape_ctx x p c)
  escape_known (Escape.short y) a p c h = h.now
  escape_known (Escape.unit {a = b} {n = n} x s) a p c h =
      unit_known c p n c.high h.now (λ i. h.known a (record { digits = b; number = n; is = refl; hexes = x; low = i }))
  escape_known (Escape.pair {a = b} {high = w} {low = l} x i y j) a p c h =
      let d = S.unit c p w c.high in
      let e = unit_known c p w c.high h.now (λ m. absurd (omega arith)) in
      unit_known d (adv (suc (suc p)) b) l d.high (known_now d e) (λ m. e)
  escape_known (Escape.braced {n = n} x s) a p c h = braces_known c p n h.now

  -- and what is known stays
  known_stays : {k : Bool} {q : Quote} {a u : List ℕ} (x : CharsOf k q a u) (p : ℕ) (c : Ctx) → Known c → Known (chars_ctx x p c)
  known_stays Chars.none p c h = h
  known_stays (Chars.plain {c = b} x y) p c h = known_stays y (adv p b) (give c b) (known_now c h)
  known_stays (Chars.escaped {e = e} {a = a} x y) p c h = known_stays y (adv (suc p) e) (escape_ctx x p c) (escape_known x a p c (known_spoilt c h _))
  known_stays {q = q} (Chars.other_quote y) p c h = known_stays y (suc p) (give c (mark (other q) ∷ [])) (known_now c h)

  now_stays : {k : Bool} {q : Quote} {a u : List ℕ} (x : CharsOf k q a u) (p : ℕ) (c : Ctx) → Known c → bad_now (chars_ctx x p c) ≡ spoilt at
  now_stays x p c h = known_now (chars_ctx x p c) (known_stays x p c h)

  -- characters that come after the first bad escape leave it so
  spoilt_stays : {k : Bool} {q : Quote} {a u : List ℕ} (x : CharsOf k q a u) (p : ℕ) (c : Ctx) → Spoilt at c a → bad_now (chars_ctx x p c) ≡ spoilt at
  spoilt_stays Chars.none p c h = h.now
  spoilt_stays (Chars.plain {c = b} x y) p c h = now_stays y (adv p b) (give c b) h.now
  spoilt_stays (Chars.escaped {e = e} {a = a} x y) p c h = now_stays y (adv (suc p) e) (escape_ctx x p c) (escape_known x a p c h)
  spoilt_stays {q = q} (Chars.other_quote y) p c h = now_stays y (suc p) (give c (mark (other q) ∷ [])) h.now

-- ---- the first bad escape

surrogate : {n : ℕ} → n ≤ 0x10FFFF → (Scalar n → ⊥) → In 0xD800 0xDFFF n
surrogate {n} h f = go (dec_lt n 0xD800) (dec_lt 0xDFFF n)
  where
    go : Dec (n < 0xD800) → Dec (0xDFFF < n) → In 0xD800 0xDFFF n
    go (yes l) m = absurd (f (record { top = h; whole = inl l }))
    go (no l) (yes m) = absurd (f (record { top = h; whole = inr m }))
    go (no l) (no m) = omega arith

alone_high : {w : ℕ} → In 0xD800 0xDBFF w → (c : Ctx) (at : ℕ) → S.alone c at w ≡ wait c at w
unfolding S.alone
alone_high {w} i c at = rw (le-ltb w 0xD800 i.low, lt-ltb w 0xDC00 (omega arith))

alone_low : {w : ℕ} → In 0xDC00 0xDFFF w → (c : Ctx) (at : ℕ) → S.alone c at w ≡ blame c at
unfolding S.alone
alone_low {w} i c at = rw (le-ltb w 0xD800 (omega arith), le-ltb w 0xDC00 i.low, lt-ltb w 0xE000 (omega arith))

braces_bad : {w : ℕ} → (Scalar w → ⊥) → (c : Ctx) (at : ℕ) → S.in_braces c at w ≡ blame c at
unfolding S.in_braces
braces_bad {w} f c at =
    by_ltb P w 0xD800 _ _ (λ l. absurd (f (record { top = omega arith; whole = inl l }))) λ l.
    by_ltb P w 0xE000 _ _ (λ m. refl) λ m.
    by_leb P w 0x10FFFF _ _ (λ n. absurd (f (record { top = n; whole = inr (omega arith) }))) (λ n. refl)
  where
    P : Ctx → Type 0
    P k = k ≡ blame c at

-- a high surrogate and its low one next are a good escape
pair_behind : {d a t : List ℕ} {n : ℕ} → Hexadecimal 4 d n → In 0xD800 0xDBFF n → Low a t → NoEscape ((ch "u" ∷ d) ++ a) → ⊥
pair_behind {d} {a} {t} x i l lacks =
    let b = letters "\\u" ++ l.digits in
    let e : d ++ a ≡ (d ++ b) ++ t = ap (λ (z : List ℕ). d ++ z) l.is ∙ sym (append_assoc d b t) in
    lacks (ch "u" ∷ (d ++ b)) t _ (ap (λ (z : List ℕ). ch "u" ∷ z) e) (Escape.pair x i l.hexes l.low)

-- a surrogate by itself: a low one is blamed at once, a high one waits
unit_bad : {d : List ℕ} {n : ℕ} → Hexadecimal 4 d n → In 0xD800 0xDFFF n → (a : List ℕ) → NoEscape ((ch "u" ∷ d) ++ a)
    → (at : ℕ) (c : Ctx) → bad_now c ≡ fine → Spoilt at (S.alone c at n) a
unit_bad {n = n} x s a lacks at c e = go (dec_lt n 0xDC00)
  where
    go : Dec (n < 0xDC00) → Spoilt at (S.alone c at n) a
    go (yes h) =
        let i : In 0xD800 0xDBFF n = omega arith in
        rw (alone_high i c at) (record { now = ap (λ (z : Bad). first z at) e; known = λ t l. absurd (pair_behind x i l lacks) })
    go (no h) = rw (alone_low {w = n} (omega arith) c at) (known_spoilt at (blame c at) (ap (λ (z : Bad). first z at) e) a)

-- where no escape was bad before it, an escape of the bare grammar that is no good one is the first bad one
first_bad : {e v : List ℕ} (x : Escape false e v) (a : List ℕ) → NoEscape (e ++ a) → (at j : ℕ) (acc : List ℕ)
    → Spoilt at (escape_ctx x at (clear j acc)) a
unfolding S.unit
first_bad (Escape.short y) a lacks at j acc = absurd (lacks _ a _ refl (Escape.short y))
first_bad (Escape.unit x s) a lacks at j acc =
    unit_bad x (surrogate (omega (arith, four_small x)) (λ t. lacks _ a _ refl (Escape.unit x t))) a lacks at (clear j acc) refl
first_bad (Escape.pair x i y j) a lacks at k acc = absurd (lacks _ a _ refl (Escape.pair x i y j))
first_bad (Escape.braced x s) a lacks at j acc =
    rw (braces_bad (λ t. lacks _ a _ refl (Escape.braced x t)) (clear j acc) at) (known_spoilt at (blame (clear j acc) at) refl a)

-- characters of the bare grammar that begin with a backslash, behind which no good escape stands
chars_bad : {q : Quote} {x v : List ℕ} (y : CharsOf false q x v) (b : List ℕ) → x ≡ ch "\\" ∷ b → NoEscape b → (p j : ℕ) (acc : List ℕ)
    → bad_now (chars_ctx y p (clear j acc)) ≡ spoilt p
chars_bad Chars.none b e lacks p j acc = absurd (let z : ◌≡◌ {A = ℕ} 0 1 = cc in omega arith)
chars_bad {q = q} (Chars.plain {a = a} (Among.character {n = n} s o) y) b e lacks p j acc =
    let f = first_of_lem (plain_each q n s o) (encode_some n s) in
    absurd (f.has.no_back (same_head (ap (λ (z : List ℕ). z ++ a) (sym f.is) ∙ e)))
chars_bad (Chars.escaped {e = d} {a = a} x y) b e lacks p j acc =
    let i : b ≡ d ++ a = cc in
    spoilt_stays p y (adv (suc p) d) (escape_ctx x p (clear j acc)) (first_bad x a (subst NoEscape i lacks) p j acc)
chars_bad {q = q} (Chars.other_quote y) b e lacks p j acc = absurd (no_slash (other q) (let i : mark (other q) ≡ ch "\\" = cc in sym i))

-- ---- the run

not_closed : {q : Quote} {a u : List ℕ} → CharsOf true q a u → (b : List ℕ) → NotFirst (mark q) (a ++ (ch "\\" ∷ b))
not_closed {q} {a} x b = go (first_char x)
  where
    go : (a ≡ []) ⊎ ((b : List ℕ) → NotFirst (mark q) (a ++ b)) → NotFirst (mark q) (a ++ (ch "\\" ∷ b))
    go (inl e) = rw e (no_slash q)
    go (inr f) = f (ch "\\" ∷ b)

-- the bytes of a string part that lead from one state to another
part_read : {p : ℕ} {s s' : St} {a : List ℕ} → Steps scan p s a s' → (z : Use) (v : List ℕ) (d : ℕ) (k : List Frame) (r : List ℕ)
    → read p (Machine.at (item (Machine.string_part z v s)) d k) (a ++ r) ≡ read (adv p a) (Machine.at (item (Machine.string_part z v s')) d k) r
unfolding read
part_read Steps.stay z v d k r = refl
part_read (Steps.eat {p = p} {b = b} {a = a} x e) z v d k r =
    ap (λ (o : Out St (List ℕ)). read (suc p) (on_out p d k b (lift (Machine.string_part z v) (λ y. Got.string z (v ++ y)) o)) (a ++ r)) e
    ∙ part_read x z v d k r

-- a part that has closed with a bad escape in it: 4, whatever follows
done_read : (at : ℕ) (c : Ctx) → bad_now c ≡ spoilt at → (p : ℕ) (z : Use) (v : List ℕ) (d : ℕ) (k : List Frame) (r : List ℕ)
    → read p (Machine.at (item (Machine.string_part z v (done c))) d k) r ≡ No (BadEscape at)
unfolding read scan
done_read at c e p z v d k [] = rw e
done_read at c e p z v d k (b ∷ r) = rw e (absorbing (suc p) (BadEscape at) r)

-- where a part begins that is good up to a backslash, behind which no good escape stands
bad_part : {z : Use} {s : Base} {w : List ℕ} → StartsString z s w → {a u b v : List ℕ} (q : Quote) → CharsOf true q a u
    → CharsOf false q (ch "\\" ∷ b) v → NoEscape b → (p d : ℕ) (k : List Frame) (r : List ℕ)
    → read p (Machine.at (base s) d k) (mark q ∷ (a ++ (ch "\\" ∷ (b ++ (mark q ∷ r))))) ≡ No (BadEscape (adv (suc p) a))
bad_part {z} {s} {w} i {a} {u} {b} q x y lacks p d k r =
    let j = adv (suc p) a in
    let c = chars_ctx y j (clear (mark q) u) in
    begun p d k s (mark q) _ _ (starts_string i p d k (mark q) (quote_class q))
    ∙ ap (λ (t : List ℕ). read p (Machine.at (item (Machine.string_part z w begin)) d k) (mark q ∷ t)) (respelt a b (mark q ∷ []) r)
    ∙ part_read (part_run x y (not_closed x (b ++ (mark q ∷ []))) p) z w d k r
    ∙ done_read j c (chars_bad y b refl lacks j (mark q) u) (adv (suc p) (a ++ (ch "\\" ∷ (b ++ (mark q ∷ []))))) z w d k r
  where
    respelt : (a b m r : List ℕ) → a ++ (ch "\\" ∷ (b ++ (m ++ r))) ≡ (a ++ (ch "\\" ∷ (b ++ m))) ++ r
    respelt a b m r = simp append_assoc

-- 4 is given at that backslash
pub escape_given : (d : ℕ) (s : Spot) (l a u b v : List ℕ) (q : Quote) (r : List ℕ) → Left d s l → CharsOf true q a u → CharsOf false q (ch "\\" ∷ b) v
    → NoEscape b
    → reading (l ++ (mark q ∷ (a ++ (ch "\\" ∷ (b ++ (mark q ∷ r)))))) ≡ No (BadEscape (length l + 1 + length a))
unfolding reading
escape_given d s l a u b v q r h x y lacks =
    go s (left_stood h) ∙ ap (λ (p : ℕ). No (BadEscape p)) (adv_length a (suc (adv 0 l)) ∙ place (adv 0 l) (adv_length l 0))
  where
    t : List ℕ
    t = mark q ∷ (a ++ (ch "\\" ∷ (b ++ (mark q ∷ r))))

    place : (p : ℕ) → p ≡ 0 + length l → suc p + length a ≡ length l + 1 + length a
    place p e = omega arith

    go : (s : Spot) → Stood d s l → read 0 init (l ++ t) ≡ No (BadEscape (adv (suc (adv 0 l)) a))
    go value (k, g) = g t ∙ bad_part StartsString.first_value q x y lacks (adv 0 l) d k r
    go part (z, w, k, g) = g t ∙ bad_part (StartsString.further {z = z} {v = w}) q x y lacks (adv 0 l) d k r
    go (among (elements m)) (k, g) = g t ∙ bad_part StartsString.first_value q x y lacks (adv 0 l) d (inside (elements m) ∷ k) r
    go (among (members m)) (k, g) = g t ∙ bad_part StartsString.first_key q x y lacks (adv 0 l) d (inside (members m) ∷ k) r
