-- One byte of a text (docs/FORMAT.md, 1.2, 2 and 7), as the check in parts keeps it: where it stands, and the kinds of
-- the open brackets. It goes by the machine's classes of bytes, clause by clause. Assumes nothing.
use Rattle.std.specs.Prelude.{ℕ, zero, suc, ◌+◌, ◌-◌, ◌≡◌, ◌<◌, Option, Some, None, Bool, true, false, cond, List, []}
use Rattle.std.specs.Prelude.{◌∷◌, eqb, ltb, get_or}
use Rattle.std.proofs.lemmas.List.Edits.{sets}
use Rattle.meaning.specs.Limits.{depth_limit}
use Rattle.meaning.specs.declared.Refusal.{Refusal}
use Rattle.meaning.specs.declared.Refusal.TheVariants.{NotGrammar, TooDeep}
use Rattle.machine.specs.Machine.{Bracket, square, curly, Class, class_of, Note, note_of}
use Rattle.machine.specs.Machine.{blank_c, hash_c, slash_c, comma_c, colon_c, plus_c, quote_c, dollar_c, letter_n}
use Rattle.machine.specs.Machine.{letter_t}
use Rattle.machine.specs.Machine.{letter_f, letter_c, other_c, open_c, close_c, line_end, star_n, slash_n, plain_n}
use Rattle.machine.specs.Machine.{control_n}
use Rattle.arriving.specs.declared.states.Due as DueOf
use Rattle.arriving.specs.declared.states.Due.TheVariants as Due
use Rattle.arriving.specs.declared.states.Octets.TheVariants as Octets
use Rattle.arriving.specs.declared.states.Mode as ModeOf
use Rattle.arriving.specs.declared.states.Mode.TheVariants as Mode
use Rattle.arriving.specs.declared.states.Here.{Here}
use Rattle.arriving.specs.declared.states.Out.{Out}
use Rattle.arriving.specs.declared.states.Out.TheVariants.{Takes, Stops, Breaks}
use Rattle.arriving.specs.Between.Figures.{begin_figure, next_figure}
use Rattle.arriving.specs.Between.Times.{next_moment}
use Rattle.arriving.specs.Between.Strings.{open_quote, next_quoted}
use Rattle.arriving.specs.Between.Small.{next_word, next_octets, next_name, null_at, true_at, false_at}

-- where the grammar stands, and the kinds
abbrev pub Stand : Type 0
Stand = Here × List ℕ

abbrev pub here_of : ModeOf.Mode → DueOf.Due → ℕ → ℕ → ℕ → Here
here_of m u d r s = record { mode = m; due = u; depth = d; records = r; stored = s }

-- in another mode, with all else as it was
abbrev pub moded : Stand → ModeOf.Mode → Stand
moded x m = (here_of m x.0.due x.0.depth x.0.records x.0.stored, x.1)

-- between items, and this is due
abbrev pub due_now : Stand → DueOf.Due → Stand
due_now x u = (here_of Mode.At u x.0.depth x.0.records x.0.stored, x.1)

-- an item begins that is a record, and so many store bytes come; u is due after it
abbrev pub begun : Stand → ModeOf.Mode → DueOf.Due → ℕ → Stand
begun x m u n = (here_of m u x.0.depth (x.0.records + 1) (x.0.stored + n), x.1)

-- the next part of a string or binary begins; u is due after it
abbrev pub resumed : Stand → ModeOf.Mode → DueOf.Due → Stand
resumed x m u = (here_of m u x.0.depth x.0.records x.0.stored, x.1)

abbrev pub refused : Stand → Refusal → Stand
refused x r = moded x (Mode.Failed r)

abbrev pub odd : Stand → ℕ → Stand
odd x p = refused x (NotGrammar p)

-- ---- brackets

abbrev pub kind_of : Bracket → ℕ
kind_of square = 1
kind_of curly = 2

abbrev pub due_in : Bracket → DueOf.Due
due_in square = Due.Value
due_in curly = Due.Key

-- the kind of the innermost open bracket, 0 where none is open
unfoldable pub top_of : List ℕ → ℕ → ℕ
top_of ks zero = 0
top_of ks (suc d) = get_or ks d 0

-- what the code says of it
abbrev pub TopIs : List ℕ → ℕ → Option ℕ → Type 0
TopIs ks d None = d ≡ 0
TopIs ks d (Some k) = (k ≡ top_of ks d) × (0 < d)

-- 7, more than so many open
unfoldable pub opened : Stand → ℕ → Bracket → Stand
opened x p c =
    cond (ltb x.0.depth depth_limit) (
      here_of Mode.At (due_in c) (x.0.depth + 1) (x.0.records + 1) x.0.stored,
      sets x.1 x.0.depth (kind_of c ∷ []),
    )
    (refused x (TooDeep p))

unfoldable pub closed : Stand → ℕ → Bracket → Stand
closed x p c =
    cond (eqb (top_of x.1 x.0.depth) (kind_of c))
    (here_of Mode.At Due.AfterValue (x.0.depth - 1) x.0.records x.0.stored, x.1) (odd x p)

unfoldable pub comma : Stand → ℕ → Stand
comma x p =
    cond (eqb (top_of x.1 x.0.depth) (kind_of square)) (due_now x Due.Value)
    (cond (eqb (top_of x.1 x.0.depth) (kind_of curly)) (due_now x Due.Key) (odd x p))

-- ---- a byte where no item stands

-- whether what came may be a value, or a key
abbrev pub after_value : DueOf.Due → Bool
after_value Due.Value = false
after_value Due.Key = false
after_value Due.StringPart = false
after_value Due.KeyPart = false
after_value Due.BinaryPart = false
after_value Due.AfterValue = true
after_value Due.AfterKey = false
after_value Due.AfterString = true
after_value Due.AfterKeyString = false
after_value Due.AfterBinary = true

abbrev pub after_key : DueOf.Due → Bool
after_key Due.Value = false
after_key Due.Key = false
after_key Due.StringPart = false
after_key Due.KeyPart = false
after_key Due.BinaryPart = false
after_key Due.AfterValue = false
after_key Due.AfterKey = true
after_key Due.AfterString = false
after_key Due.AfterKeyString = true
after_key Due.AfterBinary = false

-- a plus joins the next part
abbrev pub plus : Stand → ℕ → DueOf.Due → Stand
plus x p Due.Value = odd x p
plus x p Due.Key = odd x p
plus x p Due.StringPart = odd x p
plus x p Due.KeyPart = odd x p
plus x p Due.BinaryPart = odd x p
plus x p Due.AfterValue = odd x p
plus x p Due.AfterKey = odd x p
plus x p Due.AfterString = due_now x Due.StringPart
plus x p Due.AfterKeyString = due_now x Due.KeyPart
plus x p Due.AfterBinary = due_now x Due.BinaryPart

-- after a value, a key or a part
abbrev pub on_after : Stand → ℕ → Class → Stand
on_after x p blank_c = moded x Mode.At
on_after x p hash_c = moded x Mode.Line
on_after x p slash_c = moded x Mode.Slash
on_after x p comma_c = cond (after_value x.0.due) (comma x p) (odd x p)
on_after x p (close_c c) = cond (after_value x.0.due) (closed x p c) (odd x p)
on_after x p colon_c = cond (after_key x.0.due) (due_now x Due.Value) (odd x p)
on_after x p plus_c = plus x p x.0.due
on_after x p (open_c c) = odd x p
on_after x p quote_c = odd x p
on_after x p dollar_c = odd x p
on_after x p letter_n = odd x p
on_after x p letter_t = odd x p
on_after x p letter_f = odd x p
on_after x p letter_c = odd x p
on_after x p other_c = odd x p

-- the first byte of a number or a time value
unfoldable pub begun_figure : Stand → ℕ → Out → Stand
begun_figure x p (Takes m n) = begun x m Due.AfterValue n
begun_figure x p Stops = odd x p
begun_figure x p (Breaks r) = refused x r

abbrev pub on_value : Stand → ℕ → ℕ → Class → Stand
on_value x p b blank_c = moded x Mode.At
on_value x p b hash_c = moded x Mode.Line
on_value x p b slash_c = moded x Mode.Slash
on_value x p b (open_c c) = opened x p c
on_value x p b (close_c square) = closed x p square
on_value x p b (close_c curly) = odd x p
on_value x p b quote_c = begun x (open_quote b) Due.AfterString 0
on_value x p b dollar_c = begun x (Mode.Packing Octets.Dollar) Due.AfterBinary 0
on_value x p b letter_n = begun x (Mode.Spelling null_at) Due.AfterValue 0
on_value x p b letter_t = begun x (Mode.Spelling true_at) Due.AfterValue 0
on_value x p b letter_f = begun x (Mode.Spelling false_at) Due.AfterValue 0
on_value x p b plus_c = begun_figure x p (begin_figure p b)
on_value x p b letter_c = begun_figure x p (begin_figure p b)
on_value x p b other_c = begun_figure x p (begin_figure p b)
on_value x p b comma_c = odd x p
on_value x p b colon_c = odd x p

abbrev pub on_key : Stand → ℕ → ℕ → Class → Stand
on_key x p b blank_c = moded x Mode.At
on_key x p b hash_c = moded x Mode.Line
on_key x p b slash_c = moded x Mode.Slash
on_key x p b (close_c square) = odd x p
on_key x p b (close_c curly) = closed x p curly
on_key x p b quote_c = begun x (open_quote b) Due.AfterKeyString 0
on_key x p b dollar_c = begun x Mode.Naming Due.AfterKey 1
on_key x p b letter_n = begun x Mode.Naming Due.AfterKey 1
on_key x p b letter_t = begun x Mode.Naming Due.AfterKey 1
on_key x p b letter_f = begun x Mode.Naming Due.AfterKey 1
on_key x p b letter_c = begun x Mode.Naming Due.AfterKey 1
on_key x p b (open_c c) = odd x p
on_key x p b plus_c = odd x p
on_key x p b comma_c = odd x p
on_key x p b colon_c = odd x p
on_key x p b other_c = odd x p

-- after a plus: only a part of the same kind
abbrev pub on_part : Stand → ℕ → Stand → Stand → Class → Stand
on_part x p quoted dollared blank_c = moded x Mode.At
on_part x p quoted dollared hash_c = moded x Mode.Line
on_part x p quoted dollared slash_c = moded x Mode.Slash
on_part x p quoted dollared quote_c = quoted
on_part x p quoted dollared dollar_c = dollared
on_part x p quoted dollared (open_c c) = odd x p
on_part x p quoted dollared (close_c c) = odd x p
on_part x p quoted dollared letter_n = odd x p
on_part x p quoted dollared letter_t = odd x p
on_part x p quoted dollared letter_f = odd x p
on_part x p quoted dollared letter_c = odd x p
on_part x p quoted dollared plus_c = odd x p
on_part x p quoted dollared comma_c = odd x p
on_part x p quoted dollared colon_c = odd x p
on_part x p quoted dollared other_c = odd x p

abbrev pub on_due : Stand → ℕ → ℕ → DueOf.Due → Stand
on_due x p b Due.Value = on_value x p b (class_of b)
on_due x p b Due.Key = on_key x p b (class_of b)
on_due x p b Due.StringPart = on_part x p (resumed x (open_quote b) Due.AfterString) (odd x p) (class_of b)
on_due x p b Due.KeyPart = on_part x p (resumed x (open_quote b) Due.AfterKeyString) (odd x p) (class_of b)
on_due x p b Due.BinaryPart =
    on_part x p (odd x p) (resumed x (Mode.Packing Octets.Dollar) Due.AfterBinary) (class_of b)
on_due x p b Due.AfterValue = on_after x p (class_of b)
on_due x p b Due.AfterKey = on_after x p (class_of b)
on_due x p b Due.AfterString = on_after x p (class_of b)
on_due x p b Due.AfterKeyString = on_after x p (class_of b)
on_due x p b Due.AfterBinary = on_after x p (class_of b)

unfoldable pub between : Stand → ℕ → ℕ → Stand
between x p b = on_due x p b x.0.due

-- ---- a byte in layout

abbrev pub on_slash : Stand → ℕ → Note → Stand
on_slash x p slash_n = moded x Mode.Line
on_slash x p star_n = moded x Mode.Block
on_slash x p line_end = odd x p
on_slash x p plain_n = odd x p
on_slash x p control_n = odd x p

abbrev pub on_line : Stand → ℕ → Note → Stand
on_line x p line_end = moded x Mode.At
on_line x p control_n = odd x p
on_line x p slash_n = moded x Mode.Line
on_line x p star_n = moded x Mode.Line
on_line x p plain_n = moded x Mode.Line

abbrev pub on_block : Stand → ℕ → Note → Stand
on_block x p star_n = moded x Mode.Star
on_block x p control_n = odd x p
on_block x p slash_n = moded x Mode.Block
on_block x p line_end = moded x Mode.Block
on_block x p plain_n = moded x Mode.Block

abbrev pub on_star : Stand → ℕ → Note → Stand
on_star x p slash_n = moded x Mode.At
on_star x p star_n = moded x Mode.Star
on_star x p control_n = odd x p
on_star x p line_end = moded x Mode.Block
on_star x p plain_n = moded x Mode.Block

-- ---- a byte anywhere

-- what a byte did to an item; where the item has stopped before it, the byte stands between items
unfoldable pub done : Stand → ℕ → ℕ → Out → Stand
done x p b (Takes m n) = (here_of m x.0.due x.0.depth x.0.records (x.0.stored + n), x.1)
done x p b Stops = between (moded x Mode.At) p b
done x p b (Breaks r) = refused x r

unfoldable pub on_mode : Stand → ℕ → ℕ → ModeOf.Mode → Stand
on_mode x p b Mode.At = between x p b
on_mode x p b Mode.Slash = on_slash x p (note_of b)
on_mode x p b Mode.Line = on_line x p (note_of b)
on_mode x p b Mode.Block = on_block x p (note_of b)
on_mode x p b Mode.Star = on_star x p (note_of b)
on_mode x p b (Mode.Spelling n) = done x p b (next_word n p b)
on_mode x p b (Mode.Counting f) = done x p b (next_figure f p b)
on_mode x p b (Mode.Timing s m) = done x p b (next_moment s m p b)
on_mode x p b (Mode.Quoting k s) = done x p b (next_quoted k s p b)
on_mode x p b (Mode.Packing o) = done x p b (next_octets o p b)
on_mode x p b Mode.Naming = done x p b (next_name b)
on_mode x p b (Mode.Failed r) = x

-- what the byte b does at the place p
abbrev pub next : Stand → ℕ → ℕ → Stand
next x p b = on_mode x p b x.0.mode

-- what bytes do from the place p on
unfoldable pub walked : Stand → ℕ → List ℕ → Stand
walked x p [] = x
walked x p (b ∷ t) = walked (next x p b) (suc p) t
