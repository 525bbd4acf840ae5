-- Hexadecimal digits, and hexadecimal numbers. Assumes nothing.
use Rattle.std.specs.Prelude.{Err, Option, Some, None}
use Prim.Native.Nat.{ℕ, ◌+◌, ◌*◌, ◌-◌, ◌≤◌, ◌<◌}
use mathlib.Core.Path.{◌≡◌, refl, sym, subst}
use mathlib.Core.Bool.{Bool, true, false, cond}
use mathlib.Core.Logic.{inr}
use mathlib.Core.List.{List}
use native.Mathlib.Omega.{arith}
use native.Mathlib.Numerals.{add-one}
use lib.ListN.{length, get_or}
use lib.Dec.{ltb, leb}
use borrow.Author.Tests.{lt-ltb, le-ltb, ltb-true, ltb-false, leb-true, leb-false}
use Rattle.rules.specs.Rfc3629.{In}
use Rattle.meaning.specs.Letters.{ch}
use Rattle.meaning.specs.Limits.{coefficient_limit}
use Rattle.meaning.specs.declared.Refusal.TheVariants.{NotGrammar, BadNumber}
use Rattle.grammar.specs.Characters.{Hexdig}
use Rattle.machine.specs.Scan.{breaks}
use Rattle.machine.specs.Strings.{hex_of, no_digit}
use Rattle.machine.specs.Numeric as S
use Rattle.machine.specs.Numeric.{hex, hex_mark, settle}
use Rattle.machine.proofs.Numeric.Rows.{found, hex_is}
use Rattle.items.specs.Between.Places.{byte_at}
use Rattle.items.specs.Between.NumberOrTime.{Scanned, Tells, Reads, Closes, Holds, Settles, HexSpan, HexKept, Hexed, Onto}
use Rattle.items.specs.declared.number.Acc.{Acc}
use Rattle.items.specs.declared.Taken.{Taken}
use Rattle.items.proofs.PlacesLaws.{byte_in, byte_out}
use Rattle.items.proofs.NumberOrTimeLaws.{took, halts, breaks_at, same, closes_by}

-- ---- one digit

-- the value of a digit, or 16
pub data HexValue (b : ℕ) : ℕ → Type 0 where
  digit : {d : ℕ} → Hexdig b d → d < 16 → HexValue b d
  none : S.hex_of b ≡ S.no_hex → HexValue b 16

no_hex_lem : (b : ℕ) → (In (ch "0") (ch "9") b → ⊥) → (In (ch "A") (ch "F") b → ⊥) → (In (ch "a") (ch "f") b → ⊥) → HexValue b 16
no_hex_lem b x y z = HexValue.none (found (S.hex_table b) S.no_hex b S.no_hex (inr (x, inr (y, inr (z, refl)))))

value : (b : ℕ) → HexValue b (hex_of b)
unfolding hex_of
value b = a0 (ltb b (ch "0")) refl
  where
    f2 : ch "a" ≤ b → (x : Bool) → leb b (ch "f") ≡ x → HexValue b (cond x (b - ch "a" + 10) no_digit)
    f2 h true e = let u = leb-true b (ch "f") e in HexValue.digit (Hexdig.lower (record { low = h; high = u })) (omega arith)
    f2 h false e = let u = leb-false b (ch "f") e in no_hex_lem b (λ i. omega arith) (λ i. omega arith) (λ i. omega arith)

    f1 : ch "F" < b → (x : Bool) → ltb b (ch "a") ≡ x → HexValue b (cond x no_digit (cond (leb b (ch "f")) (b - ch "a" + 10) no_digit))
    f1 h true e = let u = ltb-true b (ch "a") e in no_hex_lem b (λ i. omega arith) (λ i. omega arith) (λ i. omega arith)
    f1 h false e = f2 (ltb-false b (ch "a") e) (leb b (ch "f")) refl

    e2 : ch "A" ≤ b → (x : Bool) → leb b (ch "F") ≡ x → HexValue b (cond x (b - ch "A" + 10)
        (cond (ltb b (ch "a")) no_digit (cond (leb b (ch "f")) (b - ch "a" + 10) no_digit)))
    e2 h true e = let u = leb-true b (ch "F") e in HexValue.digit (Hexdig.upper (record { low = h; high = u })) (omega arith)
    e2 h false e = f1 (leb-false b (ch "F") e) (ltb b (ch "a")) refl

    e1 : ch "9" < b → (x : Bool) → ltb b (ch "A") ≡ x → HexValue b (cond x no_digit
        (cond (leb b (ch "F")) (b - ch "A" + 10) (cond (ltb b (ch "a")) no_digit (cond (leb b (ch "f")) (b - ch "a" + 10) no_digit))))
    e1 h true e = let u = ltb-true b (ch "A") e in no_hex_lem b (λ i. omega arith) (λ i. omega arith) (λ i. omega arith)
    e1 h false e = e2 (ltb-false b (ch "A") e) (leb b (ch "F")) refl

    a1 : ch "0" ≤ b → (x : Bool) → leb b (ch "9") ≡ x → HexValue b (cond x (b - ch "0")
        (cond (ltb b (ch "A")) no_digit (cond (leb b (ch "F")) (b - ch "A" + 10) (cond (ltb b (ch "a")) no_digit
        (cond (leb b (ch "f")) (b - ch "a" + 10) no_digit)))))
    a1 h true e = let u = leb-true b (ch "9") e in HexValue.digit (Hexdig.decimal (record { low = h; high = u })) (omega arith)
    a1 h false e = e1 (leb-false b (ch "9") e) (ltb b (ch "A")) refl

    a0 : (x : Bool) → ltb b (ch "0") ≡ x → HexValue b (cond x no_digit (cond (leb b (ch "9")) (b - ch "0")
        (cond (ltb b (ch "A")) no_digit (cond (leb b (ch "F")) (b - ch "A" + 10) (cond (ltb b (ch "a")) no_digit
        (cond (leb b (ch "f")) (b - ch "a" + 10) no_digit))))))
    a0 true e = let u = ltb-true b (ch "0") e in no_hex_lem b (λ i. omega arith) (λ i. omega arith) (λ i. omega arith)
    a0 false e = a1 (ltb-false b (ch "0") e) (leb b (ch "9")) refl

pub value_is : (b d : ℕ) → d ≡ hex_of b → HexValue b d
value_is b d e = rw e (value b)

is_hex : {b d : ℕ} → HexValue b d → d < 16 → Hexdig b d
is_hex (HexValue.digit x l) h = x
is_hex (HexValue.none e) h = absurd (omega arith)

is_none : {b d : ℕ} → HexValue b d → 16 ≤ d → S.hex_of b ≡ S.no_hex
is_none (HexValue.digit x l) h = absurd (omega arith)
is_none (HexValue.none e) h = e

-- ---- the loop over digits

-- the digits so far have a value that is kept, or is too large
abbrev pub HexLoop : List ℕ → ℕ → Option ℕ → ℕ → Type 0
HexLoop s from v i = (w : ℕ) × HexSpan s from i w × HexKept w v

module _ (s : List ℕ) (from : ℕ) (v : Option ℕ) (i : ℕ) (k : HexLoop s from v i) where
  module _ (h : i < length s) (d : ℕ) (x : HexValue (get_or s i 0) d) where
    pub hex_next : d < 16 → (u : Option ℕ) → ((w : ℕ) → HexKept w v → HexKept (16 * w + d) u) → HexLoop s from u (i + 1)
    hex_next l u f = (
      16 * k.0 + d,
      subst (λ (j : ℕ). HexSpan s from j (16 * k.0 + d)) (sym (add-one i)) (HexSpan.next k.1 h (is_hex x l)),
      f k.0 k.2,
    )

  pub hex_stop : from ≤ i → i < length s → (d : ℕ) → HexValue (get_or s i 0) d → 16 ≤ d → Hexed s from (record { value = v; end = i })
  hex_stop o h d x l = record { low = o; high = omega arith; edge = rw (byte_in s i h) (is_none x l); says = k }

  pub hex_finish : from ≤ i → i ≡ length s → Hexed s from (record { value = v; end = length s })
  hex_finish o e = rw (sym e) (record { low = o; high = omega arith; edge = rw (byte_out s i (omega arith)); says = k })

kept : {n v : ℕ} {o : Option ℕ} → HexKept n o → o ≡ Some v → (n ≡ v) × (v < coefficient_limit)
kept {n} {v} k e = let h : HexKept n (Some v) = subst (λ (y : Option ℕ). HexKept n y) e k in (h.0, omega arith)

-- a number that is kept fits
pub hex_small : {s : List ℕ} {from v : ℕ} {w : Taken (Option ℕ)} → Hexed s from w → w.value ≡ Some v → v < coefficient_limit
hex_small k e = (kept k.says.2 e).1

hex_low : {s : List ℕ} {i j w : ℕ} → HexSpan s i j w → i ≤ j
hex_low HexSpan.here = omega arith
hex_low (HexSpan.next x h e) = omega (arith, hex_low x)

-- ---- a number

hex_span : (q : ℕ) (g : Bool) {s : List ℕ} {i j w : ℕ} → HexSpan s i j w → Onto s i (hex q g 0) j (hex q g w)
hex_span q g HexSpan.here = λ r k. k
hex_span q g {s} (HexSpan.next {j = j} {w = w} {d = d} x h e) = λ r k.
    hex_span q g x r (took (hex q g (16 * w + d)) h (rw (hex_is e)) (subst (λ (y : ℕ). Reads s y (hex q g (16 * w + d)) r) (sym (add-one j)) k))

-- the first digit of some
first : {s : List ℕ} {i j w : ℕ} → HexSpan s i j w → i < j → (d : ℕ) × Hexdig (get_or s i 0) d
first HexSpan.here l = absurd (omega arith)
first {s} {i} (HexSpan.next {j = j} {d = d} x h e) l = go (λ k. first x k) (ltb i j) refl
  where
    go : (i < j → (d : ℕ) × Hexdig (get_or s i 0) d) → (b : Bool) → ltb i j ≡ b → (d : ℕ) × Hexdig (get_or s i 0) d
    go k true f = k (ltb-true i j f)
    go k false f = let y : j ≡ i = omega (arith, hex_low x, ltb-false i j f) in (d, subst (λ (k : ℕ). Hexdig (get_or s k 0) d) y e)

module _ (s : List ℕ) (q : ℕ) (g : Bool) (from : ℕ) (w : Taken (Option ℕ)) (k : Hexed s from w) where
  pub mark_none : w.end ≡ from → Reads s from (hex_mark q g) (Err (NotGrammar from))
  mark_none e = breaks_at (rw (subst (λ (i : ℕ). S.hex_of (byte_at s i) ≡ S.no_hex) e k.edge))

  module _ (l : from < w.end) where
    hex_on : (r : Scanned) → Closes w.end (S.on_hex q g k.says.0 S.no_hex) r → Reads s from (hex_mark q g) r
    hex_on r c =
        let h : from < length s = omega (arith, k.high) in
        let d = first k.says.1 l in
        same (hex q g 0) (rw (byte_in s from h, hex_is d.1)) (hex_span q g k.says.1 r (halts (S.on_hex q g k.says.0 S.no_hex) (rw k.edge) c))

    pub hex_large : w.value ≡ None → Reads s from (hex_mark q g) (Err (BadNumber q))
    hex_large o =
        let h : coefficient_limit ≤ k.says.0 = subst (λ (y : Option ℕ). HexKept k.says.0 y) o k.says.2 in
        hex_on (Err (BadNumber q)) (closes_by _ (breaks (BadNumber q)) (rw (le-ltb k.says.0 coefficient_limit h)) (record { tells = Tells.refused }))

    pub hex_settled : (v : ℕ) → w.value ≡ Some v → (a : Acc) → Holds v a → (r : Scanned) → Settles q g a 0 0 w.end r → Reads s from (hex_mark q g) r
    hex_settled v o a i r t =
        let e = kept k.says.2 o in hex_on r (closes_by _ (settle q g v 0 0) (rw (e.0, lt-ltb v coefficient_limit (omega arith))) (t.closes v i))
