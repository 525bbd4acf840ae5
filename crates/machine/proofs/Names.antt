-- The scanners of key identifiers and of words agree with the rules. Assumes nothing.
use Prim.Native.Nat.{ℕ, suc}
use mathlib.Core.Path.{◌≡◌, refl}
use mathlib.Core.Logic.{◌⊎◌, inl, inr}
use mathlib.Core.List.{List, [], ◌∷◌, ◌++◌, append_assoc, append-nil}
use native.Mathlib.Omega.{arith}
use borrow.Author.Tests.{eq-eqb}
use Rattle.rules.specs.Rfc3629.{In}
use Rattle.grammar.specs.Characters.{Of, Many}
use Rattle.grammar.specs.Characters as G
use Rattle.grammar.specs.Keys.{i_begin, i_continue, Identifier}
use Rattle.machine.specs.Scan.{takes, stops}
use Rattle.machine.specs.Names.{Class, letter, figure, neither, rows, class_of, St, start, name, begin, on_start, on_name, scan, word_scan}
use Rattle.machine.proofs.Tables.{◌&◌, cut_is, cut_found}
use Rattle.machine.proofs.Runs.{PartEnds, Goes, took, halts, OutIs}
use Rattle.machine.proofs.Strings.Tests.{by_eqb, ends_all}

-- ---- classes

pub letter_of : (b : ℕ) → Of i_begin b → class_of b ≡ letter
unfolding class_of
letter_of b (inl i) = cut_found rows neither b letter (inr (
  omega arith,
  inr (
    omega arith,
    inr (omega arith, inr (omega arith, inr (omega arith, inl (omega arith, refl)))),
  ),
))
letter_of b (inr (inl i)) =
    cut_found rows neither b letter (inr (
      omega arith,
      inr (
        omega arith,
        inr (
          omega arith,
          inr (omega arith, inr (omega arith, inr (omega arith, inr (omega arith, inr (omega arith, inr (omega arith, inl (omega arith, refl))))))),
        ),
      ),
    ))
letter_of b (inr (inr (inl i))) = cut_found rows neither b letter (inr (omega arith, inl (omega arith, refl)))
letter_of b (inr (inr (inr (inl i)))) =
    cut_found rows neither b letter (inr (
      omega arith,
      inr (
        omega arith,
        inr (
          omega arith,
          inr (omega arith, inr (omega arith, inr (omega arith, inr (omega arith, inl (omega arith, refl))))),
        ),
      ),
    ))
letter_of b (inr (inr (inr (inr i)))) = elim i [ ]

figure_of_lem : (b : ℕ) → In 0x30 0x39 b → class_of b ≡ figure
unfolding class_of
figure_of_lem b i = cut_found rows neither b figure (inr (omega arith, inr (omega arith, inr (omega arith, inl (omega arith, refl)))))

abbrev ClassIs : ℕ → Class → Type 0
ClassIs b letter = Of i_begin b
ClassIs b figure = In 0x30 0x39 b
ClassIs b neither = Unit {0}

class_is_lem : (b : ℕ) → ClassIs b (class_of b)
unfolding class_of
class_is_lem b =
    cut_is ClassIs 0 rows neither b (omega arith)
    ((λ l u. tt) & (λ l u. inr (inr (inl (omega arith)))) & (λ l u. tt) & (λ l u. omega arith) & (λ l u. tt) &
    (λ l u. inl (omega arith)) & (λ l u. tt) & (λ l u. inr (inr (inr (inl (omega arith))))) & (λ l u. tt) &
    (λ l u. inr (inl (omega arith))) & (λ l. tt))

-- ---- every identifier is taken

-- i-continue = i-begin / DIGIT
continues : (b : ℕ) → Of i_continue b → Of i_begin b ⊎ In 0x30 0x39 b
continues b (inl i) = inl (inl i)
continues b (inr (inl i)) = inl (inr (inl i))
continues b (inr (inr (inl i))) = inl (inr (inr (inl i)))
continues b (inr (inr (inr (inl i)))) = inl (inr (inr (inr (inl i))))
continues b (inr (inr (inr (inr (inl i))))) = inr i
continues b (inr (inr (inr (inr (inr i))))) = elim i [ ]

letter_continues : (b : ℕ) → Of i_begin b → Of i_continue b
letter_continues b (inl i) = inl i
letter_continues b (inr (inl i)) = inr (inl i)
letter_continues b (inr (inr (inl i))) = inr (inr (inl i))
letter_continues b (inr (inr (inr (inl i)))) = inr (inr (inr (inl i)))
letter_continues b (inr (inr (inr (inr i)))) = elim i [ ]

continue_step : (b : ℕ) → Of i_continue b → (p : ℕ) (acc : List ℕ) → scan p (name acc) b ≡ takes (name (acc ++ (b ∷ [])))
unfolding scan on_name
continue_step b o p acc = go (continues b o)
  where
    go : Of i_begin b ⊎ In 0x30 0x39 b → scan p (name acc) b ≡ takes (name (acc ++ (b ∷ [])))
    go (inl i) = rw (letter_of b i)
    go (inr i) = rw (figure_of_lem b i)

name_ends : {b : ℕ} → PartEnds b → (p : ℕ) (acc : List ℕ) → scan p (name acc) b ≡ stops acc
unfolding scan on_name class_of
name_ends e p acc = ends_all (λ b. scan p (name acc) b ≡ stops acc) (refl, refl, refl, refl, refl, refl, refl, refl, refl, refl, refl, refl) e

more_goes : {a : List ℕ} → Many (G.Ascii i_continue) a → (p : ℕ) (acc : List ℕ) → Goes scan PartEnds p (name acc) a (acc ++ a)
more_goes Many.none p acc = rw append-nil (halts scan (λ b e. name_ends e p acc))
more_goes (Many.more (G.Ascii.byte {b = b} o) x) p acc = took scan (rw append_assoc at (more_goes x (suc p) (acc ++ (b ∷ [])))) (continue_step b o p acc)

start_step : (b : ℕ) → Of i_begin b → (p : ℕ) → scan p start b ≡ takes (name (b ∷ []))
unfolding scan on_start
start_step b o p = rw (letter_of b o)

pub name_goes : {a : List ℕ} → Identifier a → (p : ℕ) → Goes scan PartEnds p begin a a
name_goes (Identifier.identifier (G.Ascii.byte {b = b} o) x) p = took scan (more_goes x (suc p) (b ∷ [])) (start_step b o p)

-- ---- what is taken is an identifier

abbrev pub NameRest : St → List ℕ → List ℕ → Type 0
NameRest start a v = Identifier a × (a ≡ v)
NameRest (name acc) a v = Many (G.Ascii i_continue) a × (acc ++ a ≡ v)

name_took : (acc : List ℕ) (b : ℕ) → Of i_continue b → (a v : List ℕ) → NameRest (name (acc ++ (b ∷ []))) a v → NameRest (name acc) (b ∷ a) v
name_took acc b o a v h = (Many.more (G.Ascii.byte o) h.0, rw append_assoc at h.1)

start_by : (p b : ℕ) (c : Class) → ClassIs b c → OutIs NameRest start b (on_start p b c)
unfolding on_start
start_by p b letter o = λ a v h. (Identifier.identifier (G.Ascii.byte o) h.0, h.1)
start_by p b figure o = tt
start_by p b neither o = tt

name_by : (acc : List ℕ) (b : ℕ) (c : Class) → ClassIs b c → OutIs NameRest (name acc) b (on_name acc b c)
unfolding on_name
name_by acc b letter o = name_took acc b (letter_continues b o)
name_by acc b figure o = name_took acc b (inr (inr (inr (inr (inl o)))))
name_by acc b neither o = (Many.none, append-nil acc)

pub name_is : (p : ℕ) (s : St) (b : ℕ) → OutIs NameRest s b (scan p s b)
unfolding scan
name_is p start b = start_by p b (class_of b) (class_is_lem b)
name_is p (name acc) b = name_by acc b (class_of b) (class_is_lem b)

-- the whole item: an identifier, whose value is its bytes
pub name_of : {a u : List ℕ} → NameRest begin a u → Identifier a × (a ≡ u)
name_of h = h

-- ---- its bytes

pub name_begins : {a : List ℕ} → Identifier a → (b : ℕ) × (r : List ℕ) × (a ≡ b ∷ r) × Of i_begin b
name_begins (Identifier.identifier {a = a} (G.Ascii.byte {b = b} o) x) = (b, a, refl, o)

-- ---- words

pub word_goes : {F : ℕ → Type 0} (w : List ℕ) (p : ℕ) → Goes word_scan F p w w tt
unfolding word_scan
word_goes [] p = halts word_scan (λ b e. refl)
word_goes (c ∷ w) p = took word_scan {s' = w} (word_goes w (suc p)) (rw (eq-eqb c c refl))

abbrev pub WordRest : List ℕ → List ℕ → Unit {0} → Type 0
WordRest left a v = a ≡ left

pub word_is : (p : ℕ) (left : List ℕ) (b : ℕ) → OutIs WordRest left b (word_scan p left b)
unfolding word_scan
word_is p [] b = refl
word_is p (c ∷ left) b = by_eqb (OutIs WordRest (c ∷ left) b) b c _ _ (λ e a v h. cc) (λ n. tt)
