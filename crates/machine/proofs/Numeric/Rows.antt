-- What a row knows of its bytes, and the row that a byte finds, for the tables of the number-or-time scanner. Assumes nothing.
use Prim.Native.Nat.{ℕ}
use mathlib.Core.Path.{◌≡◌, refl}
use mathlib.Core.Bool.{Bool, true, false, cond, ◌&&◌}
use mathlib.Core.List.{List, [], ◌∷◌}
use mathlib.Core.Logic.{◌⊎◌, inl, inr}
use native.Mathlib.Omega.{arith}
use lib.Dec.{leb}
use borrow.Author.Tests.{leb-true, le-leb}
use Rattle.rules.specs.Rfc3629.{In}
use Rattle.meaning.specs.Letters.{ch}
use Rattle.grammar.specs.Characters.{Hexdig}
use Rattle.grammar.specs.Comments.{Blank}
use Rattle.grammar.specs.Numbers.{E, X}
use Rattle.grammar.specs.Times.{Separator, Zulu}
use Rattle.machine.specs.Numeric as S
use Rattle.machine.specs.Numeric.{Row, pick}
use Rattle.machine.proofs.Runs.{EndsItem, NoDigit}

module _ {A : Type 0} where
  -- what every row, and the default, has of its bytes, the byte's class has
  abbrev pub Rows : (ℕ → A → Type 0) → List (Row A) → A → ℕ → Type 0
  Rows P [] d b = P b d
  Rows P (r ∷ rs) d b = (In r.low r.high b → P b r.act) × Rows P rs d b

  pub pick_is : (P : ℕ → A → Type 0) (rs : List (Row A)) (d : A) (b : ℕ) → Rows P rs d b → P b (pick rs d b)
  pick_is P [] d b h = h
  pick_is P (r ∷ rs) d b h = go (pick_is P rs d b h.1) (leb r.low b) refl (leb b r.high) refl
    where
      go : P b (pick rs d b) → (x : Bool) → leb r.low b ≡ x → (y : Bool) → leb b r.high ≡ y → P b (cond (x && y) r.act (pick rs d b))
      go rest true e true f = h.0 (record { low = leb-true _ _ e; high = leb-true _ _ f })
      go rest true e false f = rest
      go rest false e y f = rest

  -- rows that miss the byte, and then one that holds it or none
  abbrev pub Found : List (Row A) → A → ℕ → A → Type 0
  Found [] d b x = d ≡ x
  Found (r ∷ rs) d b x = (In r.low r.high b × (r.act ≡ x)) ⊎ ((In r.low r.high b → ⊥) × Found rs d b x)

  pub found : (rs : List (Row A)) (d : A) (b : ℕ) (x : A) → Found rs d b x → pick rs d b ≡ x
  found [] d b x h = h
  found (r ∷ rs) d b x (inl h) = rw (le-leb _ _ h.0.low, le-leb _ _ h.0.high) h.1
  found (r ∷ rs) d b x (inr h) = go (found rs d b x h.1) (leb r.low b) refl (leb b r.high) refl
    where
      go : pick rs d b ≡ x → (y : Bool) → leb r.low b ≡ y → (z : Bool) → leb b r.high ≡ z → cond (y && z) r.act (pick rs d b) ≡ x
      go k true e true f = absurd (h.0 (record { low = leb-true _ _ e; high = leb-true _ _ f }))
      go k true e false f = k
      go k false e z f = k

-- ---- what a byte is, by its class

abbrev pub DecimalDigit : ℕ → Type 0
DecimalDigit b = In (ch "0") (ch "9") b

pub data NumIs : ℕ → S.Num → Type 0 where
  digit : {b : ℕ} → DecimalDigit b → NumIs b S.digit_n
  point : NumIs (ch ".") S.point_n
  e_is : {b : ℕ} → E b → NumIs b S.e_n
  x_is : {b : ℕ} → X b → NumIs b S.x_n
  colon : NumIs (ch ":") S.colon_n
  minus : NumIs (ch "-") S.minus_n
  other : {b : ℕ} → NumIs b S.other_n

pub num_class : (b : ℕ) → NumIs b (S.num_of b)
num_class b =
    pick_is NumIs S.num_table S.other_n b (
      (λ i. NumIs.digit i),
      (
        (λ i. let e : b ≡ ch "." = omega arith in rw e NumIs.point),
        (
          (λ i. let e : b ≡ ch "e" = omega arith in rw e (NumIs.e_is E.small)),
          (
            (λ i. let e : b ≡ ch "E" = omega arith in rw e (NumIs.e_is E.capital)),
            (
              (λ i. let e : b ≡ ch "x" = omega arith in rw e (NumIs.x_is X.small)),
              (
                (λ i. let e : b ≡ ch "X" = omega arith in rw e (NumIs.x_is X.capital)),
                (
                  (λ i. let e : b ≡ ch ":" = omega arith in rw e NumIs.colon),
                  (
                    (λ i. let e : b ≡ ch "-" = omega arith in rw e NumIs.minus),
                    NumIs.other,
                  ),
                ),
              ),
            ),
          ),
        ),
      ),
    )

pub data DgIs : ℕ → S.Dg → Type 0 where
  digit : {b : ℕ} → DecimalDigit b → DgIs b S.digit
  other : {b : ℕ} → DgIs b S.other

pub dg_class : (b : ℕ) → DgIs b (S.dg_of b)
dg_class b = pick_is DgIs S.dg_table S.other b ((λ i. DgIs.digit i), DgIs.other)

pub data ExpIs : ℕ → S.ExpB → Type 0 where
  digit : {b : ℕ} → DecimalDigit b → ExpIs b S.digit_e
  plus : ExpIs (ch "+") S.plus_e
  minus : ExpIs (ch "-") S.minus_e
  other : {b : ℕ} → ExpIs b S.other_e

pub exp_class : (b : ℕ) → ExpIs b (S.exp_of b)
exp_class b =
    pick_is ExpIs S.exp_table S.other_e b (
      (λ i. ExpIs.digit i),
      (
        (λ i. let e : b ≡ ch "+" = omega arith in rw e ExpIs.plus),
        (
          (λ i. let e : b ≡ ch "-" = omega arith in rw e ExpIs.minus),
          ExpIs.other,
        ),
      ),
    )

pub data FstIs : ℕ → S.Fst → Type 0 where
  digit : {b : ℕ} → In (ch "1") (ch "9") b → FstIs b S.digit_f
  nought : FstIs (ch "0") S.nought_f
  plus : FstIs (ch "+") S.plus_f
  minus : FstIs (ch "-") S.minus_f
  point : FstIs (ch ".") S.point_f
  n_is : FstIs (ch "N") S.n_f
  i_is : FstIs (ch "I") S.i_f
  other : {b : ℕ} → FstIs b S.other_f

pub fst_class : (b : ℕ) → FstIs b (S.fst_of b)
fst_class b =
    pick_is FstIs S.fst_table S.other_f b (
      (λ i. FstIs.digit i),
      (
        (λ i. let e : b ≡ ch "0" = omega arith in rw e FstIs.nought),
        (
          (λ i. let e : b ≡ ch "+" = omega arith in rw e FstIs.plus),
          (
            (λ i. let e : b ≡ ch "-" = omega arith in rw e FstIs.minus),
            (
              (λ i. let e : b ≡ ch "." = omega arith in rw e FstIs.point),
              (
                (λ i. let e : b ≡ ch "N" = omega arith in rw e FstIs.n_is),
                (
                  (λ i. let e : b ≡ ch "I" = omega arith in rw e FstIs.i_is),
                  FstIs.other,
                ),
              ),
            ),
          ),
        ),
      ),
    )

pub data HexIs : ℕ → S.HexB → Type 0 where
  value : {b d : ℕ} → Hexdig b d → HexIs b (S.value d)
  other : {b : ℕ} → HexIs b S.no_hex

pub hex_class : (b : ℕ) → HexIs b (S.hex_of b)
hex_class b = pick_is HexIs (S.hex_table b) S.no_hex b (
  (λ i. HexIs.value (Hexdig.decimal i)),
  ((λ i. HexIs.value (Hexdig.upper i)), ((λ i. HexIs.value (Hexdig.lower i)), HexIs.other)),
)

pub data DayIs : ℕ → S.Day → Type 0 where
  letter : {b : ℕ} → Separator b → DayIs b S.letter_d
  space : DayIs (ch " ") S.space_d
  other : {b : ℕ} → DayIs b S.other_d

pub day_class : (b : ℕ) → DayIs b (S.day_of b)
day_class b =
    pick_is DayIs S.day_table S.other_d b (
      (λ i. let e : b ≡ ch "T" = omega arith in rw e (DayIs.letter Separator.letter)),
      (
        (λ i. let e : b ≡ ch "t" = omega arith in rw e (DayIs.letter Separator.small_letter)),
        (
          (λ i. let e : b ≡ ch " " = omega arith in rw e DayIs.space),
          DayIs.other,
        ),
      ),
    )

pub data SecIs : ℕ → S.Sec → Type 0 where
  digit : {b : ℕ} → DecimalDigit b → SecIs b S.digit_s
  point : SecIs (ch ".") S.point_s
  z_is : {b : ℕ} → Zulu b → SecIs b S.zulu_s
  plus : SecIs (ch "+") S.plus_s
  minus : SecIs (ch "-") S.minus_s
  other : {b : ℕ} → SecIs b S.other_s

pub sec_class : (b : ℕ) → SecIs b (S.sec_of b)
sec_class b =
    pick_is SecIs S.sec_table S.other_s b (
      (λ i. SecIs.digit i),
      (
        (λ i. let e : b ≡ ch "." = omega arith in rw e SecIs.point),
        (
          (λ i. let e : b ≡ ch "Z" = omega arith in rw e (SecIs.z_is Zulu.letter)),
          (
            (λ i. let e : b ≡ ch "z" = omega arith in rw e (SecIs.z_is Zulu.small_letter)),
            (
              (λ i. let e : b ≡ ch "+" = omega arith in rw e SecIs.plus),
              (
                (λ i. let e : b ≡ ch "-" = omega arith in rw e SecIs.minus),
                SecIs.other,
              ),
            ),
          ),
        ),
      ),
    )

-- ---- the class that a byte has

pub num_digit : (b : ℕ) → DecimalDigit b → S.num_of b ≡ S.digit_n
num_digit b i = found S.num_table S.other_n b S.digit_n (inl (i, refl))

pub dg_digit : (b : ℕ) → DecimalDigit b → S.dg_of b ≡ S.digit
dg_digit b i = found S.dg_table S.other b S.digit (inl (i, refl))

pub exp_digit : (b : ℕ) → DecimalDigit b → S.exp_of b ≡ S.digit_e
exp_digit b i = found S.exp_table S.other_e b S.digit_e (inl (i, refl))

pub fst_digit : (b : ℕ) → In (ch "1") (ch "9") b → S.fst_of b ≡ S.digit_f
fst_digit b i = found S.fst_table S.other_f b S.digit_f (inl (i, refl))

pub sec_digit : (b : ℕ) → DecimalDigit b → S.sec_of b ≡ S.digit_s
sec_digit b i = found S.sec_table S.other_s b S.digit_s (inl (i, refl))

pub hex_is : {b d : ℕ} → Hexdig b d → S.hex_of b ≡ S.value d
hex_is {b} (Hexdig.decimal i) = found (S.hex_table b) S.no_hex b _ (inl (i, refl))
hex_is {b} (Hexdig.upper i) = found (S.hex_table b) S.no_hex b _ (inr ((λ j. omega arith), inl (i, refl)))
hex_is {b} (Hexdig.lower i) = found (S.hex_table b) S.no_hex b _ (inr ((λ j. omega arith), inr ((λ j. omega arith), inl (i, refl))))

pub zulu_is : {b : ℕ} → Zulu b → S.sec_of b ≡ S.zulu_s
zulu_is Zulu.letter = refl
zulu_is Zulu.small_letter = refl

pub dg_none : {b : ℕ} → NoDigit b → S.dg_of b ≡ S.other
dg_none {b} (NoDigit.under l) = found S.dg_table S.other b S.other (inr ((λ i. omega arith), refl))
dg_none {b} (NoDigit.past l) = found S.dg_table S.other b S.other (inr ((λ i. omega arith), refl))

-- the classes of a byte that ends an item
pub record Ending (b : ℕ) : Type 0 where
  pub no_num : S.num_of b ≡ S.other_n
  pub no_dg : S.dg_of b ≡ S.other
  pub no_hex_lem : S.hex_of b ≡ S.no_hex
  pub no_sec : S.sec_of b ≡ S.other_s

pub ending : {b : ℕ} → EndsItem b → Ending b
ending (EndsItem.blank Blank.space) = record { no_num = refl; no_dg = refl; no_hex_lem = refl; no_sec = refl }
ending (EndsItem.blank Blank.tab) = record { no_num = refl; no_dg = refl; no_hex_lem = refl; no_sec = refl }
ending (EndsItem.blank Blank.line_feed) = record { no_num = refl; no_dg = refl; no_hex_lem = refl; no_sec = refl }
ending (EndsItem.blank Blank.carriage_return) = record { no_num = refl; no_dg = refl; no_hex_lem = refl; no_sec = refl }
ending EndsItem.hash = record { no_num = refl; no_dg = refl; no_hex_lem = refl; no_sec = refl }
ending EndsItem.slash = record { no_num = refl; no_dg = refl; no_hex_lem = refl; no_sec = refl }
ending EndsItem.comma = record { no_num = refl; no_dg = refl; no_hex_lem = refl; no_sec = refl }
ending EndsItem.bracket = record { no_num = refl; no_dg = refl; no_hex_lem = refl; no_sec = refl }
ending EndsItem.brace = record { no_num = refl; no_dg = refl; no_hex_lem = refl; no_sec = refl }
ending EndsItem.end = record { no_num = refl; no_dg = refl; no_hex_lem = refl; no_sec = refl }
