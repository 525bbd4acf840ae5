-- A string part (docs/FORMAT.md, 3), a byte at a time, as the check in parts keeps it: of its bytes only how many. It
-- goes by the machine's own tests, cond by cond. Places that are kept are one more than they are, so that 0 is none.
-- Assumes nothing.
use Rattle.std.specs.Prelude.{ℕ, zero, suc, ◌+◌, ◌*◌, ◌-◌, ◌%◌, cond, eqb, ltb, leb, length}
use Rattle.rules.specs.Rfc3629.{encode}
use Rattle.meaning.specs.Letters.{ch}
use Rattle.meaning.specs.declared.Refusal.TheVariants.{NotGrammar, BadEscape}
use Rattle.machine.specs.Strings.{hex_of, no_digit, short_of, no_short, plain_byte, line_byte}
use Rattle.items.specs.Between.StringPart.{grown_to}
use Rattle.arriving.specs.declared.states.Quoted.{Quoted}
use Rattle.arriving.specs.declared.states.Inner as InnerOf
use Rattle.arriving.specs.declared.states.Inner.TheVariants as Inner
use Rattle.arriving.specs.declared.states.Mode.{Mode}
use Rattle.arriving.specs.declared.states.Mode.TheVariants.{Quoting}
use Rattle.arriving.specs.declared.states.Out.{Out}
use Rattle.arriving.specs.declared.states.Out.TheVariants.{Takes, Stops, Breaks}

abbrev pub quoted : ℕ → ℕ → ℕ → Quoted
quoted q bad half = record { quote = q; bad = bad; half = half }

-- after the opening quote b
abbrev pub open_quote : ℕ → Mode
open_quote b = Quoting (quoted b 0 0) Inner.One

-- the byte is taken, and n store bytes come
abbrev pub quotes : Quoted → InnerOf.Inner → ℕ → Out
quotes k s n = Takes (Quoting k s) n

-- no rule allows the byte at this place
abbrev pub odd : ℕ → Out
odd p = Breaks (NotGrammar p)

-- the earlier of two places
unfoldable pub first_of : ℕ → ℕ → ℕ
first_of bad at = cond (eqb bad 0) at bad

-- a high surrogate that waits no longer is a bad escape
unfoldable pub bad_now : Quoted → ℕ
bad_now k = cond (eqb k.half 0) k.bad (first_of k.bad k.half)

-- the n bytes of a character come
abbrev pub give : Quoted → ℕ → Out
give k n = quotes (quoted k.quote (bad_now k) 0) Inner.Body n

-- the escape at this backslash is bad
abbrev pub blame : Quoted → ℕ → Out
blame k at = quotes (quoted k.quote (first_of (bad_now k) at) 0) Inner.Body 0

-- the escape at this backslash is a high surrogate
abbrev pub wait : Quoted → ℕ → Out
wait k at = quotes (quoted k.quote (bad_now k) at) Inner.Body 0

-- the low half of a pair makes four bytes, whatever the high one was
abbrev pub pair : Quoted → Out
pair k = quotes (quoted k.quote k.bad 0) Inner.Body 4

-- a unit of its own
unfoldable pub alone : Quoted → ℕ → ℕ → Out
alone k at w =
    cond (ltb w 0xD800) (give k (length (encode w)))
    (cond (ltb w 0xDC00) (wait k at)
    (cond (ltb w 0xE000) (blame k at) (give k (length (encode w)))))

-- the low half of a pair, or a unit of its own
unfoldable pub unit : Quoted → ℕ → ℕ → Out
unit k at w =
    cond (eqb k.half 0) (alone k at w)
    (cond (ltb w 0xDC00) (alone k at w) (cond (ltb w 0xE000) (pair k) (alone k at w)))

-- a character in braces
unfoldable pub in_braces : Quoted → ℕ → ℕ → Out
in_braces k at w =
    cond (ltb w 0xD800) (give k (length (encode w)))
    (cond (ltb w 0xE000) (blame k at)
    (cond (leb w 0x10FFFF) (give k (length (encode w))) (blame k at)))

-- the digits so far are w, and n more come
unfoldable pub hexed : Quoted → ℕ → ℕ → ℕ → Out
hexed k at zero w = unit k at w
hexed k at (suc n) w = quotes k (Inner.Hex w n at) 0

unfoldable pub on_hex : Quoted → ℕ → ℕ → ℕ → ℕ → ℕ → Out
on_hex k at n v p x = cond (ltb x no_digit) (hexed k at n (16 * (v % 4096) + x)) (odd p)

unfoldable pub on_brace : Quoted → ℕ → ℕ → ℕ → ℕ → Out
on_brace k at v p x = cond (ltb x no_digit) (quotes k (Inner.Brace (grown_to v x) at) 0) (odd p)

unfoldable pub on_short : Quoted → ℕ → ℕ → Out
on_short k p c = cond (ltb c no_short) (give k 1) (odd p)

unfoldable pub on_body : Quoted → ℕ → ℕ → Out
on_body k p b =
    cond (eqb b (ch "\\")) (quotes k (Inner.Escape (p + 1)) 0)
    (cond (eqb b k.quote) (quotes k Inner.Done 0) (cond (plain_byte b) (give k 1) (odd p)))

-- after n quotes, with so many store bytes held back before them; no more than two quotes ever wait
unfoldable pub on_lines : Quoted → ℕ → ℕ → ℕ → ℕ → Out
on_lines k n held p b =
    cond (eqb b k.quote) (cond (leb 2 n) (quotes k Inner.Done held) (quotes k (Inner.Lines (n + 1)) held))
    (cond (line_byte b) (quotes k (Inner.Lines 0) (held + n % 4 + 1)) (odd p))

-- a CR right after the opening is lost with an LF behind it, and kept otherwise
unfoldable pub on_opened : Quoted → ℕ → ℕ → Out
on_opened k p b =
    cond (eqb b (ch "\n")) (quotes k (Inner.Lines 0) 0)
    (cond (eqb b (ch "\r")) (quotes k Inner.OpenedCr 0) (on_lines k 0 0 p b))

-- once the part has closed: 4 for its first bad escape
unfoldable pub closed : Quoted → Out
closed k = cond (eqb (bad_now k) 0) Stops (Breaks (BadEscape (bad_now k - 1)))

-- what the byte b does at the place p
unfoldable pub next_quoted : Quoted → InnerOf.Inner → ℕ → ℕ → Out
next_quoted k Inner.One p b = cond (eqb b k.quote) (quotes k Inner.Two 0) (on_body k p b)
next_quoted k Inner.Two p b = cond (eqb b k.quote) (quotes k Inner.Opened 0) Stops
next_quoted k Inner.Opened p b = on_opened k p b
next_quoted k Inner.OpenedCr p b = cond (eqb b (ch "\n")) (quotes k (Inner.Lines 0) 0) (on_lines k 0 1 p b)
next_quoted k (Inner.Lines n) p b = on_lines k n 0 p b
next_quoted k Inner.Body p b = on_body k p b
next_quoted k (Inner.Escape at) p b = cond (eqb b (ch "u")) (quotes k (Inner.Unicode at) 0) (on_short k p (short_of b))
next_quoted k (Inner.Unicode at) p b =
    cond (eqb b (ch "{")) (quotes k (Inner.BraceOpen at) 0) (on_hex k at 3 0 p (hex_of b))
next_quoted k (Inner.Hex v n at) p b = on_hex k at n v p (hex_of b)
next_quoted k (Inner.BraceOpen at) p b = on_brace k at 0 p (hex_of b)
next_quoted k (Inner.Brace v at) p b = cond (eqb b (ch "}")) (in_braces k at v) (on_brace k at v p (hex_of b))
next_quoted k Inner.Done p b = closed k
