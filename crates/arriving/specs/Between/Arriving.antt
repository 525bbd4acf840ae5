-- The check while a text arrives (docs/FORMAT.md, 13.2): its state, what a part does to it, what it comes to. Assumes
-- nothing.
use Rattle.std.specs.Prelude.{ℕ, suc, ◌+◌, ◌*◌, ◌-◌, Bool, true, cond, ◌&&◌, List, [], ◌∷◌, ◌++◌, eqb, leb, length}
use Rattle.std.specs.Prelude.{replicate, Err}
use Rattle.meaning.specs.Limits.{text_limit, depth_limit}
use Rattle.meaning.specs.declared.Refusal.TheVariants.{TextTooLong, NotUtf8, NotGrammar}
use Rattle.reader.specs.Answers.{Answer, counts}
use Rattle.arriving.specs.declared.Core.{Core}
use Rattle.arriving.specs.declared.Check.{Check}
use Rattle.arriving.specs.declared.octets.Utf.{Utf}
use Rattle.arriving.specs.declared.states.Due.TheVariants as Due
use Rattle.arriving.specs.declared.states.Mode as ModeOf
use Rattle.arriving.specs.declared.states.Mode.TheVariants as Mode
use Rattle.arriving.specs.declared.states.Here.{Here}
use Rattle.arriving.specs.declared.states.Out.{Out}
use Rattle.arriving.specs.declared.states.Out.TheVariants.{Takes, Stops, Breaks}
use Rattle.arriving.specs.Between.Octets as Octets
use Rattle.arriving.specs.Between.Figures.{next_figure, sane_figure}
use Rattle.arriving.specs.Between.Times.{next_moment}
use Rattle.arriving.specs.Between.Strings.{next_quoted}
use Rattle.arriving.specs.Between.Small.{next_word, next_octets, next_name}
use Rattle.arriving.specs.Between.Steps.{Stand, here_of, walked, after_value}

abbrev pub core_of : ℕ → Utf → Here → Core
core_of n u h = record { length = n; utf = u; here = h }

abbrev pub check_of : Core → List ℕ → Check
check_of c ks = record { core = c; kinds = ks }

-- no bracket is open, after n bytes in this mode
abbrev pub fresh : ℕ → ModeOf.Mode → Check
fresh n m = check_of (core_of n Octets.between (here_of m Due.Value 0 0 0)) (replicate depth_limit 0)

-- nothing has come
abbrev pub started : Check
started = fresh 0 Mode.At

-- too many bytes have come, or the state never came from a start
abbrev pub spent : Check
spent = fresh (suc text_limit) (Mode.Failed TextTooLong)

-- ---- the bounds that sums and indexes need, kept by every byte

unfoldable pub sane_mode : ℕ → ModeOf.Mode → Bool
sane_mode n Mode.At = true
sane_mode n Mode.Slash = true
sane_mode n Mode.Line = true
sane_mode n Mode.Block = true
sane_mode n Mode.Star = true
sane_mode n (Mode.Spelling k) = true
sane_mode n (Mode.Counting f) = sane_figure n f
sane_mode n (Mode.Timing s m) = true
sane_mode n (Mode.Quoting k s) = true
sane_mode n (Mode.Packing o) = true
sane_mode n Mode.Naming = true
sane_mode n (Mode.Failed r) = true

-- after n bytes; a byte brings at most 300 store bytes, whatever the state
unfoldable pub sane_here : ℕ → Here → Bool
sane_here n h = leb h.depth depth_limit && (leb h.records n && (leb h.stored (300 * n) && sane_mode n h.mode))

unfoldable pub sane : Core → Bool
sane c = leb c.length text_limit && sane_here c.length c.here

-- ---- a part

abbrev pub grown : Core → List ℕ → Stand → Check
grown c t y = check_of (core_of (c.length + length t) (Octets.fed_utf c.utf c.length t) y.0) y.1

unfoldable pub fed : Check → List ℕ → Check
fed x t =
    let c = x.core in
    let y = grown c t (walked (c.here, x.kinds) c.length t) in
    cond (sane c) (cond (leb (length t) (text_limit - c.length)) y spent) spent

-- parts, one after the other
unfoldable pub feds : Check → List (List ℕ) → Check
feds x [] = x
feds x (t ∷ ts) = feds (fed x t) ts

-- ---- the text's end: to an item it is what a zero byte is

unfoldable pub complete : Here → ℕ → Answer
complete h p =
    cond (after_value h.due) (cond (eqb h.depth 0) (counts h.records h.stored) (Err (NotGrammar p)))
    (Err (NotGrammar p))

unfoldable pub end_out : Here → ℕ → Out → Answer
end_out h p (Takes m n) = Err (NotGrammar p)
end_out h p Stops = complete h p
end_out h p (Breaks r) = Err r

unfoldable pub end_mode : Here → ℕ → ModeOf.Mode → Answer
end_mode h p Mode.At = complete h p
end_mode h p Mode.Line = complete h p
end_mode h p Mode.Slash = Err (NotGrammar p)
end_mode h p Mode.Block = Err (NotGrammar p)
end_mode h p Mode.Star = Err (NotGrammar p)
end_mode h p (Mode.Spelling n) = end_out h p (next_word n p 0)
end_mode h p (Mode.Counting f) = end_out h p (next_figure f p 0)
end_mode h p (Mode.Timing s m) = end_out h p (next_moment s m p 0)
end_mode h p (Mode.Quoting k s) = end_out h p (next_quoted k s p 0)
end_mode h p (Mode.Packing o) = end_out h p (next_octets o p 0)
end_mode h p Mode.Naming = end_out h p (next_name 0)
end_mode h p (Mode.Failed r) = Err r

unfoldable pub ended_core : Core → Answer
ended_core c =
    cond (sane c)
    (cond c.utf.broken (Err (NotUtf8 c.utf.first))
    (cond (eqb c.utf.left 0) (end_mode c.here c.length c.here.mode) (Err (NotUtf8 c.utf.first))))
    (Err TextTooLong)

abbrev pub ended : Check → Answer
ended x = ended_core x.core

-- the text of parts
abbrev pub joined : List (List ℕ) → List ℕ
joined [] = []
joined (t ∷ ts) = t ++ joined ts
