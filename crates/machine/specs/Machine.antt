-- The pushdown over the items (docs/FORMAT.md, 1.2 and 7): what is expected, the open arrays and objects with what they
-- hold so far, the room left. Assumes nothing.
use Rattle.std.specs.Prelude.{true, false, List, [], ◌∷◌, ◌++◌, ℕ, zero, suc}
use Rattle.std.proofs.Math.Option.{Option, none, some}
use Rattle.meaning.specs.Letters.{letters, ch}
use Rattle.meaning.specs.Limits.{depth_limit}
use Rattle.meaning.specs.Meaning.{Meaning, Meanings, Members}
use Rattle.meaning.specs.declared.Refusal.{Refusal}
use Rattle.meaning.specs.declared.Refusal.TheVariants.{NotGrammar, TooDeep}
use Rattle.grammar.specs.Values.{Inside, elements, members}
use Rattle.machine.specs.Table.{cut}
use Rattle.machine.specs.Scan.{Out, takes, stops, breaks, over}
use Rattle.machine.specs.Numeric
use Rattle.machine.specs.Strings
use Rattle.machine.specs.Binaries
use Rattle.machine.specs.Names

-- ---- items, and what they give

-- what string parts are joined to: a value, or a key
pub data Use : Type 0 where
  as_value as_key : Use

pub data Item : Type 0 where
  -- the letters that are left of a word
  word : List ℕ → Meaning → Item
  numeric : Numeric.St → Item
  -- a part, after the bytes of the parts before it
  string_part : Use → List ℕ → Strings.St → Item
  binary_part : List ℕ → Binaries.St → Item
  identifier : Names.St → Item

pub data Got : Type 0 where
  -- a value, or a key, that nothing is joined to
  value : Meaning → Got
  key : List ℕ → Got
  -- the parts so far: a plus may go on
  string : Use → List ℕ → Got
  binary : List ℕ → Got

abbrev pub as_value_of : Got → Option Meaning
as_value_of (value m) = some m
as_value_of (key u) = none
as_value_of (string as_value u) = some (Meaning.string u)
as_value_of (string as_key u) = none
as_value_of (binary u) = some (Meaning.binary u)

abbrev pub as_key_of : Got → Option (List ℕ)
as_key_of (value m) = none
as_key_of (key u) = some u
as_key_of (string as_value u) = none
as_key_of (string as_key u) = some u
as_key_of (binary u) = none

module _ {S T M N : Type 0} (f : S → T) (g : M → N) where
  abbrev pub lift : Out S M → Out T N
  lift (takes s) = takes (f s)
  lift (stops m) = stops (g m)
  lift (breaks r) = breaks r

abbrev pub scan : ℕ → Item → ℕ → Out Item Got
scan p (word a m) b = lift (λ x. word x m) (λ x. value m) (Names.word_scan p a b)
scan p (numeric s) b = lift numeric value (Numeric.scan p s b)
scan p (string_part k u s) b = lift (string_part k u) (λ x. string k (u ++ x)) (Strings.scan p s b)
scan p (binary_part u s) b = lift (binary_part u) (λ x. binary (u ++ x)) (Binaries.scan p s b)
scan p (identifier s) b = lift identifier key (Names.scan p s b)

-- ---- what is expected

pub data Base : Type 0 where
  -- a value, or the end of an array
  want : Base
  -- a key, or the end of an object
  want_key : Base
  -- the next part, after a plus
  want_string : Use → List ℕ → Base
  want_binary : List ℕ → Base
  -- what may follow
  got : Got → Base

-- in layout: after a slash, in a line comment, in a block comment, after a star in one
pub data Mode : Type 0 where
  base : Base → Mode
  slash : Base → Mode
  line : Base → Mode
  block : Base → Mode
  star : Base → Mode
  item : Item → Mode

-- an open array or object with what it holds; an open object before the value of a key
pub data Frame : Type 0 where
  inside : Inside → Frame
  pair : Members → List ℕ → Frame

-- the room left is how many arrays and objects may still open
pub data Conf : Type 0 where
  at : Mode → ℕ → List Frame → Conf
  fail : Refusal → Conf

-- ---- bytes

pub data Bracket : Type 0 where
  square curly : Bracket

pub data Class : Type 0 where
  blank_c hash_c slash_c comma_c colon_c plus_c quote_c dollar_c letter_n letter_t letter_f letter_c other_c : Class
  open_c close_c : Bracket → Class

abbrev pub classes : List (ℕ × Class)
classes =
    (0x08, other_c) ∷ (ch "\n", blank_c) ∷ (0x0C, other_c) ∷ (ch "\r", blank_c) ∷ (0x1F, other_c) ∷ (ch " ", blank_c) ∷
    (ch "!", other_c)
    ∷ (ch "\"", quote_c) ∷ (ch "#", hash_c) ∷ (ch "$", dollar_c) ∷ (ch "&", other_c) ∷ (ch "'", quote_c) ∷
    (ch "*", other_c)
    ∷ (ch "+", plus_c) ∷ (ch ",", comma_c) ∷ (ch ".", other_c) ∷ (ch "/", slash_c) ∷ (ch "9", other_c) ∷
    (ch ":", colon_c)
    ∷ (ch "@", other_c) ∷ (ch "Z", letter_c) ∷ (ch "[", open_c square) ∷
    (ch "\\", other_c) ∷ (ch "]", close_c square) ∷ (ch "^", other_c)
    ∷ (ch "_", letter_c) ∷ (ch "`", other_c) ∷ (ch "e", letter_c) ∷ (ch "f", letter_f) ∷ (ch "m", letter_c) ∷
    (ch "n", letter_n)
    ∷ (ch "s", letter_c) ∷ (ch "t", letter_t) ∷ (ch "z", letter_c) ∷ (ch "{", open_c curly) ∷ (ch "|", other_c) ∷
    (ch "}", close_c curly) ∷ []

abbrev pub class_of : ℕ → Class
class_of = cut classes other_c

-- in a comment
pub data Note : Type 0 where
  line_end star_n slash_n plain_n control_n : Note

abbrev pub notes : List (ℕ × Note)
notes =
    (0x08, control_n) ∷ (ch "\t", plain_n) ∷ (ch "\n", line_end) ∷ (0x0C, control_n) ∷ (ch "\r", line_end) ∷
    (0x1F, control_n)
    ∷ (ch ")", plain_n) ∷ (ch "*", star_n) ∷ (ch ".", plain_n) ∷ (ch "/", slash_n) ∷ []

abbrev pub note_of : ℕ → Note
note_of = cut notes plain_n

-- ---- brackets, commas and colons

-- 3, not the grammar: first byte no rule allows there
abbrev pub odd : ℕ → Conf
odd p = fail (NotGrammar p)

-- nothing inside yet
abbrev pub bare_of : Bracket → Inside
bare_of square = elements Meanings.none
bare_of curly = members Members.bare

abbrev pub wanted : Inside → Base
wanted (elements x) = want
wanted (members x) = want_key

abbrev pub shut : Inside → Meaning
shut (elements x) = Meaning.array x
shut (members x) = Meaning.object x

-- the room left falls at each opening bracket; 7, more than 64 open
abbrev pub opened : ℕ → ℕ → List Frame → Inside → Conf
opened p zero k y = fail (TooDeep p)
opened p (suc d) k y = at (base (wanted y)) d (inside y ∷ k)

-- a closing bracket of this kind ends y
abbrev pub closed : ℕ → ℕ → List Frame → Bracket → Inside → Conf
closed p d k square (elements x) = at (base (got (value (shut (elements x))))) (suc d) k
closed p d k square (members x) = odd p
closed p d k curly (elements x) = odd p
closed p d k curly (members x) = at (base (got (value (shut (members x))))) (suc d) k

-- where a value or a key is wanted
abbrev pub close_wanted : ℕ → ℕ → Bracket → List Frame → Conf
close_wanted p d c [] = odd p
close_wanted p d c (inside y ∷ k) = closed p d k c y
close_wanted p d c (pair x u ∷ k) = odd p

-- with one more element or member
abbrev pub close_after : ℕ → ℕ → Bracket → List Frame → Meaning → Conf
close_after p d c [] m = odd p
close_after p d c (inside (elements x) ∷ k) m = closed p d k c (elements (Meanings.more x m))
close_after p d c (inside (members x) ∷ k) m = odd p
close_after p d c (pair x u ∷ k) m = closed p d k c (members (Members.member x u m))

abbrev pub comma_after : ℕ → ℕ → List Frame → Meaning → Conf
comma_after p d [] m = odd p
comma_after p d (inside (elements x) ∷ k) m = at (base want) d (inside (elements (Meanings.more x m)) ∷ k)
comma_after p d (inside (members x) ∷ k) m = odd p
comma_after p d (pair x u ∷ k) m = at (base want_key) d (inside (members (Members.member x u m)) ∷ k)

abbrev pub colon_after : ℕ → ℕ → List Frame → List ℕ → Conf
colon_after p d [] u = odd p
colon_after p d (inside (elements x) ∷ k) u = odd p
colon_after p d (inside (members x) ∷ k) u = at (base want) d (pair x u ∷ k)
colon_after p d (pair x w ∷ k) u = odd p

-- what a value, or a key, is needed for
abbrev pub need_value : ℕ → (Meaning → Conf) → Option Meaning → Conf
need_value p f none = odd p
need_value p f (some m) = f m

abbrev pub need_key : ℕ → (List ℕ → Conf) → Option (List ℕ) → Conf
need_key p f none = odd p
need_key p f (some u) = f u

-- a plus joins the next part
abbrev pub plus_after : ℕ → ℕ → List Frame → Got → Conf
plus_after p d k (value m) = odd p
plus_after p d k (key u) = odd p
plus_after p d k (string z u) = at (base (want_string z u)) d k
plus_after p d k (binary u) = at (base (want_binary u)) d k

-- ---- a byte at each base

abbrev pub on_got : ℕ → ℕ → List Frame → Got → Class → Conf
on_got p d k g blank_c = at (base (got g)) d k
on_got p d k g hash_c = at (line (got g)) d k
on_got p d k g slash_c = at (slash (got g)) d k
on_got p d k g comma_c = need_value p (comma_after p d k) (as_value_of g)
on_got p d k g (close_c c) = need_value p (close_after p d c k) (as_value_of g)
on_got p d k g colon_c = need_key p (colon_after p d k) (as_key_of g)
on_got p d k g plus_c = plus_after p d k g
on_got p d k g (open_c c) = odd p
on_got p d k g quote_c = odd p
on_got p d k g dollar_c = odd p
on_got p d k g letter_n = odd p
on_got p d k g letter_t = odd p
on_got p d k g letter_f = odd p
on_got p d k g letter_c = odd p
on_got p d k g other_c = odd p

abbrev pub on_out : ℕ → ℕ → List Frame → ℕ → Out Item Got → Conf
on_out p d k b (takes i) = at (item i) d k
on_out p d k b (stops g) = on_got p d k g (class_of b)
on_out p d k b (breaks r) = fail r

-- the item's first byte
abbrev pub start : ℕ → ℕ → List Frame → ℕ → Item → Conf
start p d k b i = on_out p d k b (scan p i b)

abbrev pub on_want : ℕ → ℕ → List Frame → ℕ → Class → Conf
on_want p d k b blank_c = at (base want) d k
on_want p d k b hash_c = at (line want) d k
on_want p d k b slash_c = at (slash want) d k
on_want p d k b (open_c c) = opened p d k (bare_of c)
on_want p d k b (close_c c) = close_wanted p d c k
on_want p d k b quote_c = start p d k b (string_part as_value [] Strings.begin)
on_want p d k b dollar_c = start p d k b (binary_part [] Binaries.begin)
on_want p d k b letter_n = start p d k b (word (letters "null") Meaning.null)
on_want p d k b letter_t = start p d k b (word (letters "true") (Meaning.bool true))
on_want p d k b letter_f = start p d k b (word (letters "false") (Meaning.bool false))
on_want p d k b plus_c = start p d k b (numeric Numeric.begin)
on_want p d k b letter_c = start p d k b (numeric Numeric.begin)
on_want p d k b other_c = start p d k b (numeric Numeric.begin)
on_want p d k b comma_c = odd p
on_want p d k b colon_c = odd p

abbrev pub on_key : ℕ → ℕ → List Frame → ℕ → Class → Conf
on_key p d k b blank_c = at (base want_key) d k
on_key p d k b hash_c = at (line want_key) d k
on_key p d k b slash_c = at (slash want_key) d k
on_key p d k b (close_c c) = close_wanted p d c k
on_key p d k b quote_c = start p d k b (string_part as_key [] Strings.begin)
on_key p d k b dollar_c = start p d k b (identifier Names.begin)
on_key p d k b letter_n = start p d k b (identifier Names.begin)
on_key p d k b letter_t = start p d k b (identifier Names.begin)
on_key p d k b letter_f = start p d k b (identifier Names.begin)
on_key p d k b letter_c = start p d k b (identifier Names.begin)
on_key p d k b (open_c c) = odd p
on_key p d k b plus_c = odd p
on_key p d k b comma_c = odd p
on_key p d k b colon_c = odd p
on_key p d k b other_c = odd p

-- after a plus: only a part of the same kind
abbrev pub on_part : ℕ → ℕ → List Frame → ℕ → Base → Conf → Conf → Class → Conf
on_part p d k b s quoted dollared blank_c = at (base s) d k
on_part p d k b s quoted dollared hash_c = at (line s) d k
on_part p d k b s quoted dollared slash_c = at (slash s) d k
on_part p d k b s quoted dollared quote_c = quoted
on_part p d k b s quoted dollared dollar_c = dollared
on_part p d k b s quoted dollared (open_c c) = odd p
on_part p d k b s quoted dollared (close_c c) = odd p
on_part p d k b s quoted dollared letter_n = odd p
on_part p d k b s quoted dollared letter_t = odd p
on_part p d k b s quoted dollared letter_f = odd p
on_part p d k b s quoted dollared letter_c = odd p
on_part p d k b s quoted dollared plus_c = odd p
on_part p d k b s quoted dollared comma_c = odd p
on_part p d k b s quoted dollared colon_c = odd p
on_part p d k b s quoted dollared other_c = odd p

abbrev pub on_base : ℕ → ℕ → List Frame → ℕ → Base → Conf
on_base p d k b want = on_want p d k b (class_of b)
on_base p d k b want_key = on_key p d k b (class_of b)
on_base p d k b (want_string z u) = on_part p d k b (want_string z u) (start p d k b (string_part z u Strings.begin))
    (odd p) (class_of b)
on_base p d k b (want_binary u) = on_part p d k b (want_binary u) (odd p) (start p d k b (binary_part u Binaries.begin))
    (class_of b)
on_base p d k b (got g) = on_got p d k g (class_of b)

-- ---- a byte in layout

-- the slash is allowed; a byte after it that opens no comment is not
abbrev pub on_slash : ℕ → ℕ → List Frame → Base → Note → Conf
on_slash p d k s slash_n = at (line s) d k
on_slash p d k s star_n = at (block s) d k
on_slash p d k s line_end = odd p
on_slash p d k s plain_n = odd p
on_slash p d k s control_n = odd p

-- to the next LF or CR
abbrev pub on_line : ℕ → ℕ → List Frame → Base → Note → Conf
on_line p d k s line_end = at (base s) d k
on_line p d k s control_n = odd p
on_line p d k s slash_n = at (line s) d k
on_line p d k s star_n = at (line s) d k
on_line p d k s plain_n = at (line s) d k

-- to the first `*/`
abbrev pub on_block : ℕ → ℕ → List Frame → Base → Note → Conf
on_block p d k s star_n = at (star s) d k
on_block p d k s control_n = odd p
on_block p d k s slash_n = at (block s) d k
on_block p d k s line_end = at (block s) d k
on_block p d k s plain_n = at (block s) d k

abbrev pub on_star : ℕ → ℕ → List Frame → Base → Note → Conf
on_star p d k s slash_n = at (base s) d k
on_star p d k s star_n = at (star s) d k
on_star p d k s control_n = odd p
on_star p d k s line_end = at (block s) d k
on_star p d k s plain_n = at (block s) d k

-- ---- the run

abbrev pub step : ℕ → Conf → ℕ → Conf
step p (fail r) b = fail r
step p (at (base s) d k) b = on_base p d k b s
step p (at (slash s) d k) b = on_slash p d k s (note_of b)
step p (at (line s) d k) b = on_line p d k s (note_of b)
step p (at (block s) d k) b = on_block p d k s (note_of b)
step p (at (star s) d k) b = on_star p d k s (note_of b)
step p (at (item i) d k) b = on_out p d k b (scan p i b)

pub data Verdict : Type 0 where
  Ok : Meaning → Verdict
  No : Refusal → Verdict

-- the text's end, where a value may end the text
abbrev pub complete : ℕ → List Frame → Option Meaning → Verdict
complete p k none = No (NotGrammar p)
complete p [] (some m) = Ok m
complete p (f ∷ k) (some m) = No (NotGrammar p)

abbrev pub end_base : ℕ → List Frame → Base → Verdict
end_base p k want = No (NotGrammar p)
end_base p k want_key = No (NotGrammar p)
end_base p k (want_string z u) = No (NotGrammar p)
end_base p k (want_binary u) = No (NotGrammar p)
end_base p k (got g) = complete p k (as_value_of g)

abbrev pub end_out : ℕ → List Frame → Out Item Got → Verdict
end_out p k (takes i) = No (NotGrammar p)
end_out p k (stops g) = end_base p k (got g)
end_out p k (breaks r) = No r

abbrev pub finish : ℕ → Conf → Verdict
finish p (fail r) = No r
finish p (at (base s) d k) = end_base p k s
finish p (at (line s) d k) = end_base p k s
finish p (at (slash s) d k) = No (NotGrammar p)
finish p (at (block s) d k) = No (NotGrammar p)
finish p (at (star s) d k) = No (NotGrammar p)
finish p (at (item i) d k) = end_out p k (scan p i over)

unfoldable pub read : ℕ → Conf → List ℕ → Verdict
read p c [] = finish p c
read p c (b ∷ t) = read (suc p) (step p c b) t

-- 3 to 7, from left to right, or the meaning
unfoldable pub reading : List ℕ → Verdict
reading t = read 0 (at (base want) depth_limit []) t
