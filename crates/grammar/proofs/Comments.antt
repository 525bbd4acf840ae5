-- A line comment takes all it can. Assumes nothing.
use Prim.Native.Nat.{ℕ}
use mathlib.Core.Bool.{Bool, true, false, cond}
use mathlib.Core.List.{List, [], ◌∷◌, ◌++◌}
use lib.Dec.{T, eqb}
use Rattle.meaning.specs.Letters.{letters, ch}
use Rattle.grammar.specs.Comments.{CBlock, Blank, LineEnd, Ws}

-- `#` or `//` stands first
abbrev opens : List ℕ → Bool
opens [] = false
opens (b ∷ []) = eqb b (ch "#")
opens (b ∷ c ∷ a) = cond (eqb b (ch "#")) true (cond (eqb b (ch "/")) (eqb c (ch "/")) false)

-- an LF or CR stands somewhere
abbrev ends : List ℕ → Bool
ends [] = false
ends (b ∷ a) = cond (eqb b (ch "\n")) true (cond (eqb b (ch "\r")) true (ends a))

later : (x : Bool) (y : Bool) → T y → T (cond x true y)
later true y h = tt
later false y h = h

reaches : {b : ℕ} (c a : List ℕ) → LineEnd b → T (ends (c ++ (b ∷ a)))
reaches [] a LineEnd.line_feed = tt
reaches [] a LineEnd.carriage_return = tt
reaches {b} (d ∷ c) a e = later (eqb d (ch "\n")) _ (later (eqb d (ch "\r")) (ends (c ++ (b ∷ a))) (reaches c a e))

blank : {b : ℕ} (a : List ℕ) → Blank b → T (opens (b ∷ a)) → ⊥
blank [] Blank.space h = h
blank [] Blank.tab h = h
blank [] Blank.line_feed h = h
blank [] Blank.carriage_return h = h
blank (c ∷ a) Blank.space h = h
blank (c ∷ a) Blank.tab h = h
blank (c ∷ a) Blank.line_feed h = h
blank (c ∷ a) Blank.carriage_return h = h

block : {c : List ℕ} (a : List ℕ) → CBlock c → T (opens (c ++ a)) → ⊥
block a (CBlock.c_block m s) h = h

-- Layout inside a text that opens with a line comment holds an LF or CR: the comment does not stop before one.
pub takes_all : {w : List ℕ} → Ws w → T (opens w) → T (ends w)
takes_all Ws.none h = absurd h
takes_all (Ws.blank {a = a} b w) h = absurd (blank a b h)
takes_all (Ws.line {c = c} {a = a} l e w) h = reaches c a e
takes_all (Ws.block {a = a} c w) h = absurd (block a c h)

-- and so this is no such layout
pub no_early_stop : Ws (letters "# 1") → ⊥
no_early_stop w = takes_all w tt
