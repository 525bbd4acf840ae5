-- Every refusal's place is at most the text's length. Assumes nothing.
use Prim.Native.Nat.{ℕ, zero, suc, ◌+◌, ◌*◌, ◌≤◌}
use mathlib.Core.Path.{◌≡◌, refl, ap}
use mathlib.Core.Bool.{Bool, true, false, cond}
use mathlib.Core.Option.{Option, none, some}
use mathlib.Core.List.{List, [], ◌∷◌, ◌++◌}
use native.Mathlib.Omega.{arith}
use lib.Dec.{leb, eqb, ltb}
use lib.ListN.{length, length-append}
use borrow.Author.Tests.{leb-false}
use Rattle.rules.specs.Rfc3629.{Judged}
use Rattle.rules.proofs.Outcomes.{utf8_fault}
use Rattle.std.specs.Prelude.{Result}
use Rattle.std.specs.Prelude as Std
use Rattle.rules.specs.declared.IllFormed.{IllFormed}
use Rattle.rules.specs.Between.Decided.{judged}
use Rattle.rules.proofs.Decided.{judged_is}
use Rattle.meaning.specs.Letters.{letters, ch}
use Rattle.meaning.specs.Limits.{depth_limit, text_limit}
use Rattle.meaning.specs.Meaning.{Meaning}
use Rattle.meaning.specs.Paper.{place_of}
use Rattle.meaning.specs.declared.Refusal.{Refusal}
use Rattle.meaning.specs.declared.Refusal.TheVariants.{TextTooLong, NotUtf8, NotGrammar, BadEscape, BadTime, BadNumber, TooDeep, TapeTooShort, StoreTooShort}
use Rattle.meaning.specs.declared.Refusal.TheVariants.{NotWellFormed, NoJsonForm, OutputTooShort, WrittenTooLong, NoSuchRecord}
use Rattle.meaning.specs.declared.Refusal.TheVariants.{RepeatedKey}
use Rattle.grammar.specs.Values.{Inside, elements, members}
use Rattle.machine.specs.Scan.{Out, takes, stops, breaks, over}
use Rattle.machine.specs.Strings as S
use Rattle.machine.specs.Binaries as B
use Rattle.machine.specs.Names as N
use Rattle.machine.specs.Numeric as D
use Rattle.machine.specs.Machine
use Rattle.machine.specs.Machine.{Got, Base, want, want_key, want_string, want_binary, got, base, line, item, Frame, inside, pair, Conf, at, fail, step}
use Rattle.machine.specs.Machine.{read, finish, reading, Verdict, Ok, No, class_of, Class, lift, scan}
use Rattle.machine.specs.Verdict.{decoded, verdict}
use Rattle.machine.proofs.Layouts.{Lay, plain_l, slash_l, line_l, block_l, star_l, mode_of, layout_keeps}
use Rattle.machine.proofs.Numeric.{Blame, first_of, first_begin, numeric_first, numeric_place}

-- What an outcome at the place p keeps: the places in a state that goes on, or the refusal's, are no later.
module _ {X M : Type 0} (Kept : ℕ → X → Type 0) where
  abbrev Near : ℕ → Out X M → Type 0
  Near p (takes s) = Kept (suc p) s
  Near p (stops v) = Unit {0}
  Near p (breaks r) = Blame p r

either : {A : Type 0} (P : A → Type 0) (t : Bool) {x y : A} → P x → P y → P (cond t x y)
either P true a b = a
either P false a b = b

place_3 : (p : ℕ) → Blame p (NotGrammar p)
place_3 p = refl

-- so its place is no later than the byte
fault_within : (p : ℕ) (r : Refusal) → Blame p r → place_of r ≤ p
fault_within p TextTooLong h = absurd h
fault_within p (NotUtf8 q) h = absurd h
fault_within p (NotGrammar q) h = omega arith
fault_within p (BadEscape q) h = h
fault_within p (BadTime q) h = h
fault_within p (BadNumber q) h = h
fault_within p (TooDeep q) h = h
fault_within p (TapeTooShort n) h = absurd h
fault_within p (StoreTooShort n) h = absurd h
fault_within p (NotWellFormed q) h = absurd h
fault_within p (NoJsonForm i) h = absurd h
fault_within p (OutputTooShort n) h = absurd h
fault_within p (WrittenTooLong n) h = absurd h
fault_within p (NoSuchRecord i) h = absurd h
fault_within p (RepeatedKey q) h = absurd h

-- ---- string parts

abbrev BadKept : ℕ → S.Bad → Type 0
BadKept p S.fine = Unit {0}
BadKept p (S.spoilt q) = q ≤ p

abbrev HalfKept : ℕ → S.Half → Type 0
HalfKept p S.whole = Unit {0}
HalfKept p (S.half q h) = q ≤ p

abbrev CtxKept : ℕ → S.Ctx → Type 0
CtxKept p k = BadKept p k.bad × HalfKept p k.high

abbrev PartKept : ℕ → S.St → Type 0
PartKept p S.start = Unit {0}
PartKept p (S.one q) = Unit {0}
PartKept p (S.two q) = Unit {0}
PartKept p (S.lines0 q) = Unit {0}
PartKept p (S.lines_cr q) = Unit {0}
PartKept p (S.lines q n acc) = Unit {0}
PartKept p (S.body k) = CtxKept p k
PartKept p (S.esc k q) = CtxKept p k × (q ≤ p)
PartKept p (S.uni k q) = CtxKept p k × (q ≤ p)
PartKept p (S.hex k q n v) = CtxKept p k × (q ≤ p)
PartKept p (S.brace0 k q) = CtxKept p k × (q ≤ p)
PartKept p (S.brace k q v) = CtxKept p k × (q ≤ p)
PartKept p (S.done k) = CtxKept p k

bad_on : (p : ℕ) (b : S.Bad) → BadKept p b → BadKept (suc p) b
bad_on p S.fine h = tt
bad_on p (S.spoilt q) h = omega arith

half_on : (p : ℕ) (b : S.Half) → HalfKept p b → HalfKept (suc p) b
half_on p S.whole h = tt
half_on p (S.half q n) h = omega arith

ctx_on : (p : ℕ) (k : S.Ctx) → CtxKept p k → CtxKept (suc p) k
ctx_on p k h = (bad_on p k.bad h.0, half_on p k.high h.1)

first_kept : (p : ℕ) (b : S.Bad) (q : ℕ) → BadKept p b → q ≤ p → BadKept p (S.first b q)
first_kept p S.fine q h l = l
first_kept p (S.spoilt r) q h l = h

lost_kept : (p : ℕ) (b : S.Bad) (w : S.Half) → BadKept p b → HalfKept p w → BadKept p (S.lost b w)
lost_kept p b S.whole h l = h
lost_kept p b (S.half q n) h l = first_kept p b q h l

give_kept : (p : ℕ) (k : S.Ctx) → CtxKept p k → BadKept p (S.bad_now k) × HalfKept p S.whole
give_kept p k h = (lost_kept p k.bad k.high h.0 h.1, tt)

blame_kept : (p : ℕ) (k : S.Ctx) (q : ℕ) → CtxKept p k → q ≤ p → CtxKept p (S.blame k q)
blame_kept p k q h l = (first_kept p (S.bad_now k) q (lost_kept p k.bad k.high h.0 h.1) l, tt)

wait_kept : (p : ℕ) (k : S.Ctx) (q n : ℕ) → CtxKept p k → q ≤ p → CtxKept p (S.wait k q n)
wait_kept p k q n h l = (lost_kept p k.bad k.high h.0 h.1, l)

alone_kept : (p : ℕ) (k : S.Ctx) (q w : ℕ) → CtxKept p k → q ≤ p → CtxKept p (S.alone k q w)
unfolding S.alone
alone_kept p k q w h l = either (CtxKept p) (ltb w 0xD800) (give_kept p k h) (either (CtxKept p) (ltb w 0xDC00) (wait_kept p k q w h l)
    (either (CtxKept p) (ltb w 0xE000) (blame_kept p k q h l) (give_kept p k h)))

unit_kept : (p : ℕ) (k : S.Ctx) (q w : ℕ) (c : S.Half) → CtxKept p k → q ≤ p → CtxKept p (S.unit k q w c)
unfolding S.unit
unit_kept p k q w S.whole h l = alone_kept p k q w h l
unit_kept p k q w (S.half r n) h l = either (CtxKept p) (ltb w 0xDC00) (alone_kept p k q w h l)
    (either (CtxKept p) (ltb w 0xE000) (h.0, tt) (alone_kept p k q w h l))

braces_kept : (p : ℕ) (k : S.Ctx) (q w : ℕ) → CtxKept p k → q ≤ p → CtxKept p (S.in_braces k q w)
unfolding S.in_braces
braces_kept p k q w h l = either (CtxKept p) (ltb w 0xD800) (give_kept p k h) (either (CtxKept p) (ltb w 0xE000) (blame_kept p k q h l)
    (either (CtxKept p) (leb w 0x10FFFF) (give_kept p k h) (blame_kept p k q h l)))

abbrev PartNear : ℕ → Out S.St (List ℕ) → Type 0
PartNear p o = Near PartKept p o

hexed_kept : (p : ℕ) (k : S.Ctx) (q n w : ℕ) → CtxKept p k → q ≤ p → PartKept p (S.hexed k q n w)
unfolding S.hexed
hexed_kept p k q zero w h l = unit_kept p k q w k.high h l
hexed_kept p k q (suc n) w h l = (h, l)

hex_near : (p : ℕ) (k : S.Ctx) (q n v x : ℕ) → CtxKept p k → q ≤ p → PartNear p (S.on_hex p k q n v x)
unfolding S.on_hex
hex_near p k q n v x h l = either (PartNear p) (ltb x S.no_digit) (hexed_kept (suc p) k q n (16 * v + x) (ctx_on p k h) (omega arith)) (place_3 p)

brace_near : (p : ℕ) (k : S.Ctx) (q v x : ℕ) → CtxKept p k → q ≤ p → PartNear p (S.on_brace p k q v x)
unfolding S.on_brace
brace_near p k q v x h l = either (PartNear p) (ltb x S.no_digit) (ctx_on p k h, omega arith) (place_3 p)

short_near : (p : ℕ) (k : S.Ctx) (c : ℕ) → CtxKept p k → PartNear p (S.on_short p k c)
unfolding S.on_short
short_near p k c h = either (PartNear p) (ltb c S.no_short) (give_kept (suc p) k (ctx_on p k h)) (place_3 p)

body_near : (p : ℕ) (k : S.Ctx) (b : ℕ) → CtxKept p k → PartNear p (S.on_body p k b)
unfolding S.on_body
body_near p k b h = either (PartNear p) (eqb b (ch "\\")) (ctx_on p k h, omega arith)
    (either (PartNear p) (eqb b k.quote) (ctx_on p k h) (either (PartNear p) (S.plain_byte b) (give_kept (suc p) k (ctx_on p k h)) (place_3 p)))

lines_near : (p q n : ℕ) (acc : List ℕ) (b : ℕ) → PartNear p (S.on_lines p q n acc b)
unfolding S.on_lines
lines_near p q n acc b = either (PartNear p) (eqb b q) (either (PartKept (suc p)) (eqb n 2) (tt, tt) tt) (either (PartNear p) (S.line_byte b) tt (place_3 p))

close_near : (p : ℕ) (acc : List ℕ) (b : S.Bad) → BadKept p b → PartNear p (S.close acc b)
close_near p acc S.fine h = tt
close_near p acc (S.spoilt q) h = h

part_near : (p : ℕ) (s : S.St) (b : ℕ) → PartKept p s → PartNear p (S.scan p s b)
unfolding S.scan
part_near p S.start b h = either (PartNear p) (eqb b (ch "\"")) tt (either (PartNear p) (eqb b (ch "'")) tt (place_3 p))
part_near p (S.one q) b h = either (PartNear p) (eqb b q) tt (body_near p _ b (tt, tt))
part_near p (S.two q) b h = either (PartNear p) (eqb b q) tt tt
part_near p (S.lines0 q) b h = either (PartNear p) (eqb b (ch "\n")) tt (either (PartNear p) (eqb b (ch "\r")) tt (lines_near p q 0 [] b))
part_near p (S.lines_cr q) b h = either (PartNear p) (eqb b (ch "\n")) tt (lines_near p q 0 _ b)
part_near p (S.lines q n acc) b h = lines_near p q n acc b
part_near p (S.body k) b h = body_near p k b h
part_near p (S.esc k q) b h = either (PartNear p) (eqb b (ch "u")) (ctx_on p k h.0, omega arith) (short_near p k (S.short_of b) h.0)
part_near p (S.uni k q) b h = either (PartNear p) (eqb b (ch "{")) (ctx_on p k h.0, omega arith) (hex_near p k q 3 0 (S.hex_of b) h.0 h.1)
part_near p (S.hex k q n v) b h = hex_near p k q n v (S.hex_of b) h.0 h.1
part_near p (S.brace0 k q) b h = brace_near p k q 0 (S.hex_of b) h.0 h.1
part_near p (S.brace k q v) b h = either (PartNear p) (eqb b (ch "}")) (braces_kept (suc p) k q v (ctx_on p k h.0) (omega arith))
    (brace_near p k q v (S.hex_of b) h.0 h.1)
part_near p (S.done k) b h = close_near p k.acc (S.bad_now k) (lost_kept p k.bad k.high h.0 h.1)

-- ---- binary parts, identifiers and words keep no place

abbrev FreeNear : {X M : Type 0} → ℕ → Out X M → Type 0
FreeNear p o = Near (λ q s. Unit {0}) p o

digit_near : (p x : ℕ) (f : ℕ → B.St) (o : Out B.St (List ℕ)) → FreeNear p o → FreeNear p (B.on_digit x f o)
unfolding B.on_digit
digit_near p x f o h = either (FreeNear p) (ltb x S.no_digit) tt h

text_near : (p q : ℕ) (acc : List ℕ) (b : ℕ) → FreeNear p (B.on_text p q acc b)
unfolding B.on_text
text_near p q acc b = either (FreeNear p) (eqb b (ch "\\")) tt (either (FreeNear p) (eqb b q) tt
    (either (FreeNear p) (ltb b 0x20) (place_3 p) (either (FreeNear p) (leb b 0x7E) tt (place_3 p))))

binary_near : (p : ℕ) (s : B.St) (b : ℕ) → FreeNear p (B.scan p s b)
unfolding B.scan B.on_short
binary_near p B.start b = either (FreeNear p) (eqb b (ch "$")) tt (place_3 p)
binary_near p B.dollar b = either (FreeNear p) (eqb b (ch "\"")) tt (either (FreeNear p) (eqb b (ch "'")) tt
    (digit_near p (S.hex_of b) (B.low []) (stops []) tt))
binary_near p (B.text q acc) b = text_near p q acc b
binary_near p (B.esc q acc) b = either (FreeNear p) (eqb b (ch "x")) tt (either (FreeNear p) (ltb (S.short_of b) S.no_short) tt (place_3 p))
binary_near p (B.hex q acc) b = digit_near p (S.hex_of b) (B.hex_low q acc) (breaks (NotGrammar p)) (place_3 p)
binary_near p (B.hex_low q acc v) b = digit_near p (S.hex_of b) _ (breaks (NotGrammar p)) (place_3 p)
binary_near p (B.low acc v) b = digit_near p (S.hex_of b) _ (breaks (NotGrammar p)) (place_3 p)
binary_near p (B.pairs acc) b = either (FreeNear p) (eqb b (ch ".")) tt (digit_near p (S.hex_of b) (B.low acc) (stops acc) tt)
binary_near p (B.dot acc) b = digit_near p (S.hex_of b) (B.low acc) (breaks (NotGrammar p)) (place_3 p)
binary_near p (B.done acc) b = tt

name_near : (p : ℕ) (s : N.St) (b : ℕ) → FreeNear p (N.scan p s b)
unfolding N.scan N.on_start N.on_name
name_near p N.start b = go (N.class_of b)
  where
    go : (c : N.Class) → FreeNear p (N.on_start p b c)
    go N.letter = tt
    go N.figure = place_3 p
    go N.neither = place_3 p
name_near p (N.name acc) b = go (N.class_of b)
  where
    go : (c : N.Class) → FreeNear p (N.on_name acc b c)
    go N.letter = tt
    go N.figure = tt
    go N.neither = tt

word_near : (p : ℕ) (w : List ℕ) (b : ℕ) → FreeNear p (N.word_scan p w b)
unfolding N.word_scan
word_near p [] b = tt
word_near p (c ∷ w) b = either (FreeNear p) (eqb b c) tt (place_3 p)

-- ---- the pushdown

abbrev pub ItemKept : ℕ → Machine.Item → Type 0
ItemKept p (Machine.word w m) = Unit {0}
ItemKept p (Machine.numeric s) = first_of s ≤ p
ItemKept p (Machine.string_part z u s) = PartKept p s
ItemKept p (Machine.binary_part u s) = Unit {0}
ItemKept p (Machine.identifier s) = Unit {0}

abbrev pub ConfKept : ℕ → Conf → Type 0
ConfKept p (fail r) = place_of r ≤ p
ConfKept p (at (base s) d k) = Unit {0}
ConfKept p (at (Machine.slash s) d k) = Unit {0}
ConfKept p (at (line s) d k) = Unit {0}
ConfKept p (at (Machine.block s) d k) = Unit {0}
ConfKept p (at (Machine.star s) d k) = Unit {0}
ConfKept p (at (item i) d k) = ItemKept p i

-- what a byte at p leads to: a state with its places no later, or a refusal
abbrev pub Stepped : ℕ → Conf → Type 0
Stepped p (fail r) = Blame p r
Stepped p (at (base s) d k) = Unit {0}
Stepped p (at (Machine.slash s) d k) = Unit {0}
Stepped p (at (line s) d k) = Unit {0}
Stepped p (at (Machine.block s) d k) = Unit {0}
Stepped p (at (Machine.star s) d k) = Unit {0}
Stepped p (at (item i) d k) = ItemKept (suc p) i

module _ {X M : Type 0} (Kept : ℕ → X → Type 0) (f : X → Machine.Item) (g : M → Got) (same : (p : ℕ) (s : X) → Kept p s → ItemKept p (f s)) where
  lift_near : (p : ℕ) (o : Out X M) → Near Kept p o → Near ItemKept p (lift f g o)
  lift_near p (takes s) h = same (suc p) s h
  lift_near p (stops v) h = tt
  lift_near p (breaks r) h = h

numeric_near : (p : ℕ) (s : D.St) (b : ℕ) → first_of s ≤ p → Near (λ q x. first_of x ≤ q) p (D.scan p s b)
numeric_near p s b h = go (D.scan p s b) refl
  where
    go : (o : Out D.St Meaning) → D.scan p s b ≡ o → Near (λ q x. first_of x ≤ q) p o
    go (takes x) e = numeric_first p s b x h e
    go (stops m) e = tt
    go (breaks r) e = numeric_place p s b r h e

item_near : (p : ℕ) (i : Machine.Item) (b : ℕ) → ItemKept p i → Near ItemKept p (scan p i b)
item_near p (Machine.word w m) b h = lift_near (λ q s. Unit {0}) (λ x. Machine.word x m) (λ x. Got.value m) (λ p s h. tt) p (N.word_scan p w b)
    (word_near p w b)
item_near p (Machine.numeric s) b h = lift_near (λ q x. first_of x ≤ q) Machine.numeric Got.value (λ p s h. h) p (D.scan p s b) (numeric_near p s b h)
item_near p (Machine.string_part z u s) b h = lift_near PartKept (Machine.string_part z u) (λ x. Got.string z (u ++ x)) (λ p s h. h) p (S.scan p s b)
    (part_near p s b h)
item_near p (Machine.binary_part u s) b h = lift_near (λ q s. Unit {0}) (Machine.binary_part u) (λ x. Got.binary (u ++ x)) (λ p s h. tt) p (B.scan p s b)
    (binary_near p s b)
item_near p (Machine.identifier s) b h = lift_near (λ q s. Unit {0}) Machine.identifier Got.key (λ p s h. tt) p (N.scan p s b) (name_near p s b)

odd_kept : (p : ℕ) → Stepped p (Machine.odd p)
odd_kept p = refl

deep_kept : (p d : ℕ) (k : List Frame) (y : Inside) → Stepped p (Machine.opened p d k y)
deep_kept p zero k y = omega arith
deep_kept p (suc d) k y = tt

closed_kept : (p d : ℕ) (k : List Frame) (c : Machine.Bracket) (y : Inside) → Stepped p (Machine.closed p d k c y)
closed_kept p d k Machine.square (elements x) = tt
closed_kept p d k Machine.square (members x) = odd_kept p
closed_kept p d k Machine.curly (elements x) = odd_kept p
closed_kept p d k Machine.curly (members x) = tt

wanted_kept : (p d : ℕ) (c : Machine.Bracket) (k : List Frame) → Stepped p (Machine.close_wanted p d c k)
wanted_kept p d c [] = odd_kept p
wanted_kept p d c (inside y ∷ k) = closed_kept p d k c y
wanted_kept p d c (pair x u ∷ k) = odd_kept p

close_kept : (p d : ℕ) (c : Machine.Bracket) (k : List Frame) (m : Meaning) → Stepped p (Machine.close_after p d c k m)
close_kept p d c [] m = odd_kept p
close_kept p d c (inside (elements x) ∷ k) m = closed_kept p d k c _
close_kept p d c (inside (members x) ∷ k) m = odd_kept p
close_kept p d c (pair x u ∷ k) m = closed_kept p d k c _

comma_kept : (p d : ℕ) (k : List Frame) (m : Meaning) → Stepped p (Machine.comma_after p d k m)
comma_kept p d [] m = odd_kept p
comma_kept p d (inside (elements x) ∷ k) m = tt
comma_kept p d (inside (members x) ∷ k) m = odd_kept p
comma_kept p d (pair x u ∷ k) m = tt

colon_kept : (p d : ℕ) (k : List Frame) (u : List ℕ) → Stepped p (Machine.colon_after p d k u)
colon_kept p d [] u = odd_kept p
colon_kept p d (inside (elements x) ∷ k) u = odd_kept p
colon_kept p d (inside (members x) ∷ k) u = tt
colon_kept p d (pair x w ∷ k) u = odd_kept p

value_kept : (p : ℕ) (f : Meaning → Conf) (m : Option Meaning) → ((x : Meaning) → Stepped p (f x)) → Stepped p (Machine.need_value p f m)
value_kept p f none h = odd_kept p
value_kept p f (some m) h = h m

key_kept : (p : ℕ) (f : List ℕ → Conf) (m : Option (List ℕ)) → ((x : List ℕ) → Stepped p (f x)) → Stepped p (Machine.need_key p f m)
key_kept p f none h = odd_kept p
key_kept p f (some m) h = h m

plus_kept : (p d : ℕ) (k : List Frame) (g : Got) → Stepped p (Machine.plus_after p d k g)
plus_kept p d k (Got.value m) = odd_kept p
plus_kept p d k (Got.key u) = odd_kept p
plus_kept p d k (Got.string z u) = tt
plus_kept p d k (Got.binary u) = tt

got_kept : (p d : ℕ) (k : List Frame) (g : Got) (c : Class) → Stepped p (Machine.on_got p d k g c)
got_kept p d k g Machine.blank_c = tt
got_kept p d k g Machine.hash_c = tt
got_kept p d k g Machine.slash_c = tt
got_kept p d k g Machine.comma_c = value_kept p _ (Machine.as_value_of g) (comma_kept p d k)
got_kept p d k g Machine.colon_c = key_kept p _ (Machine.as_key_of g) (colon_kept p d k)
got_kept p d k g Machine.plus_c = plus_kept p d k g
got_kept p d k g Machine.quote_c = odd_kept p
got_kept p d k g Machine.dollar_c = odd_kept p
got_kept p d k g Machine.letter_n = odd_kept p
got_kept p d k g Machine.letter_t = odd_kept p
got_kept p d k g Machine.letter_f = odd_kept p
got_kept p d k g Machine.letter_c = odd_kept p
got_kept p d k g Machine.other_c = odd_kept p
got_kept p d k g (Machine.open_c c) = odd_kept p
got_kept p d k g (Machine.close_c c) = value_kept p _ (Machine.as_value_of g) (close_kept p d c k)

out_kept : (p d : ℕ) (k : List Frame) (b : ℕ) (o : Out Machine.Item Got) → Near ItemKept p o → Stepped p (Machine.on_out p d k b o)
out_kept p d k b (takes i) h = h
out_kept p d k b (stops g) h = got_kept p d k g (class_of b)
out_kept p d k b (breaks r) h = h

start_kept : (p d : ℕ) (k : List Frame) (b : ℕ) (i : Machine.Item) → ItemKept p i → Stepped p (Machine.start p d k b i)
start_kept p d k b i h = out_kept p d k b (scan p i b) (item_near p i b h)

want_kept : (p d : ℕ) (k : List Frame) (b : ℕ) (c : Class) → Stepped p (Machine.on_want p d k b c)
want_kept p d k b Machine.blank_c = tt
want_kept p d k b Machine.hash_c = tt
want_kept p d k b Machine.slash_c = tt
want_kept p d k b Machine.comma_c = odd_kept p
want_kept p d k b Machine.colon_c = odd_kept p
want_kept p d k b Machine.plus_c = start_kept p d k b (Machine.numeric D.begin) (first_begin p)
want_kept p d k b Machine.quote_c = start_kept p d k b (Machine.string_part Machine.as_value [] S.begin) tt
want_kept p d k b Machine.dollar_c = start_kept p d k b (Machine.binary_part [] B.begin) tt
want_kept p d k b Machine.letter_n = start_kept p d k b (Machine.word (letters "null") Meaning.null) tt
want_kept p d k b Machine.letter_t = start_kept p d k b (Machine.word (letters "true") (Meaning.bool true)) tt
want_kept p d k b Machine.letter_f = start_kept p d k b (Machine.word (letters "false") (Meaning.bool false)) tt
want_kept p d k b Machine.letter_c = start_kept p d k b (Machine.numeric D.begin) (first_begin p)
want_kept p d k b Machine.other_c = start_kept p d k b (Machine.numeric D.begin) (first_begin p)
want_kept p d k b (Machine.open_c c) = deep_kept p d k (Machine.bare_of c)
want_kept p d k b (Machine.close_c c) = wanted_kept p d c k

key_wanted_kept : (p d : ℕ) (k : List Frame) (b : ℕ) (c : Class) → Stepped p (Machine.on_key p d k b c)
key_wanted_kept p d k b Machine.blank_c = tt
key_wanted_kept p d k b Machine.hash_c = tt
key_wanted_kept p d k b Machine.slash_c = tt
key_wanted_kept p d k b Machine.comma_c = odd_kept p
key_wanted_kept p d k b Machine.colon_c = odd_kept p
key_wanted_kept p d k b Machine.plus_c = odd_kept p
key_wanted_kept p d k b Machine.quote_c = start_kept p d k b (Machine.string_part Machine.as_key [] S.begin) tt
key_wanted_kept p d k b Machine.dollar_c = start_kept p d k b (Machine.identifier N.begin) tt
key_wanted_kept p d k b Machine.letter_n = start_kept p d k b (Machine.identifier N.begin) tt
key_wanted_kept p d k b Machine.letter_t = start_kept p d k b (Machine.identifier N.begin) tt
key_wanted_kept p d k b Machine.letter_f = start_kept p d k b (Machine.identifier N.begin) tt
key_wanted_kept p d k b Machine.letter_c = start_kept p d k b (Machine.identifier N.begin) tt
key_wanted_kept p d k b Machine.other_c = odd_kept p
key_wanted_kept p d k b (Machine.open_c c) = odd_kept p
key_wanted_kept p d k b (Machine.close_c c) = wanted_kept p d c k

part_wanted_kept : (p d : ℕ) (k : List Frame) (b : ℕ) (s : Base) (x y : Conf) → Stepped p x → Stepped p y → (c : Class)
    → Stepped p (Machine.on_part p d k b s x y c)
part_wanted_kept p d k b s x y f g Machine.blank_c = tt
part_wanted_kept p d k b s x y f g Machine.hash_c = tt
part_wanted_kept p d k b s x y f g Machine.slash_c = tt
part_wanted_kept p d k b s x y f g Machine.comma_c = odd_kept p
part_wanted_kept p d k b s x y f g Machine.colon_c = odd_kept p
part_wanted_kept p d k b s x y f g Machine.plus_c = odd_kept p
part_wanted_kept p d k b s x y f g Machine.quote_c = f
part_wanted_kept p d k b s x y f g Machine.dollar_c = g
part_wanted_kept p d k b s x y f g Machine.letter_n = odd_kept p
part_wanted_kept p d k b s x y f g Machine.letter_t = odd_kept p
part_wanted_kept p d k b s x y f g Machine.letter_f = odd_kept p
part_wanted_kept p d k b s x y f g Machine.letter_c = odd_kept p
part_wanted_kept p d k b s x y f g Machine.other_c = odd_kept p
part_wanted_kept p d k b s x y f g (Machine.open_c c) = odd_kept p
part_wanted_kept p d k b s x y f g (Machine.close_c c) = odd_kept p

base_kept : (p d : ℕ) (k : List Frame) (b : ℕ) (s : Base) → Stepped p (Machine.on_base p d k b s)
base_kept p d k b want = want_kept p d k b (class_of b)
base_kept p d k b want_key = key_wanted_kept p d k b (class_of b)
base_kept p d k b (want_string z u) = part_wanted_kept p d k b (want_string z u) _ _ (start_kept p d k b (Machine.string_part z u S.begin) tt) (odd_kept p)
    (class_of b)
base_kept p d k b (want_binary u) = part_wanted_kept p d k b (want_binary u) _ _ (odd_kept p) (start_kept p d k b (Machine.binary_part u B.begin) tt)
    (class_of b)
base_kept p d k b (got g) = got_kept p d k g (class_of b)

-- in layout as out of it
layout_kept : (p d : ℕ) (k : List Frame) (b : ℕ) (s : Base) (l : Lay) → Stepped p (step p (at (mode_of l s) d k) b)
layout_kept p d k b s l = layout_keeps (λ hs c. Stepped p c) p d k s (odd_kept p) on b (base_kept p d k b s) l
  where
    on : (l : Lay) → Stepped p (at (mode_of l s) d k)
    on plain_l = tt
    on slash_l = tt
    on line_l = tt
    on block_l = tt
    on star_l = tt

-- no refusal yet
abbrev pub Live : Conf → Type 0
Live (fail r) = ⊥
Live (at m d k) = Unit {0}

pub steps_on : (p : ℕ) (c : Conf) (b : ℕ) → Live c → ConfKept p c → Stepped p (step p c b)
steps_on p (fail r) b l h = absurd l
steps_on p (at (base s) d k) b l h = layout_kept p d k b s plain_l
steps_on p (at (Machine.slash s) d k) b l h = layout_kept p d k b s slash_l
steps_on p (at (line s) d k) b l h = layout_kept p d k b s line_l
steps_on p (at (Machine.block s) d k) b l h = layout_kept p d k b s block_l
steps_on p (at (Machine.star s) d k) b l h = layout_kept p d k b s star_l
steps_on p (at (item i) d k) b l h = out_kept p d k b (scan p i b) (item_near p i b h)

pub stepped_kept : (p : ℕ) (c : Conf) → Stepped p c → ConfKept (suc p) c
stepped_kept p (fail r) h = omega (arith, fault_within p r h)
stepped_kept p (at (base s) d k) h = tt
stepped_kept p (at (Machine.slash s) d k) h = tt
stepped_kept p (at (line s) d k) h = tt
stepped_kept p (at (Machine.block s) d k) h = tt
stepped_kept p (at (Machine.star s) d k) h = tt
stepped_kept p (at (item i) d k) h = h

step_kept : (p : ℕ) (c : Conf) (b : ℕ) → ConfKept p c → ConfKept (suc p) (step p c b)
step_kept p (fail r) b h = omega arith
step_kept p (at m d k) b h = stepped_kept p (step p (at m d k) b) (steps_on p (at m d k) b tt h)

abbrev pub VerdictKept : ℕ → Verdict → Type 0
VerdictKept p (Ok m) = Unit {0}
VerdictKept p (No r) = place_of r ≤ p

-- what the text's end at p leads to
abbrev pub VerdictBlamed : ℕ → Verdict → Type 0
VerdictBlamed p (Ok m) = Unit {0}
VerdictBlamed p (No r) = Blame p r

complete_blamed : (p : ℕ) (k : List Frame) (m : Option Meaning) → VerdictBlamed p (Machine.complete p k m)
complete_blamed p k none = place_3 p
complete_blamed p [] (some m) = tt
complete_blamed p (f ∷ k) (some m) = place_3 p

end_blamed : (p : ℕ) (k : List Frame) (s : Base) → VerdictBlamed p (Machine.end_base p k s)
end_blamed p k want = place_3 p
end_blamed p k want_key = place_3 p
end_blamed p k (want_string z u) = place_3 p
end_blamed p k (want_binary u) = place_3 p
end_blamed p k (got g) = complete_blamed p k (Machine.as_value_of g)

end_out_blamed : (p : ℕ) (k : List Frame) (o : Out Machine.Item Got) → Near ItemKept p o → VerdictBlamed p (Machine.end_out p k o)
end_out_blamed p k (takes i) h = place_3 p
end_out_blamed p k (stops g) h = end_blamed p k (got g)
end_out_blamed p k (breaks r) h = h

pub ends_on : (p : ℕ) (c : Conf) → Live c → ConfKept p c → VerdictBlamed p (finish p c)
ends_on p (fail r) l h = absurd l
ends_on p (at (base s) d k) l h = end_blamed p k s
ends_on p (at (line s) d k) l h = end_blamed p k s
ends_on p (at (Machine.slash s) d k) l h = place_3 p
ends_on p (at (Machine.block s) d k) l h = place_3 p
ends_on p (at (Machine.star s) d k) l h = place_3 p
ends_on p (at (item i) d k) l h = end_out_blamed p k (scan p i over) (item_near p i over h)

blamed_kept : (p : ℕ) (v : Verdict) → VerdictBlamed p v → VerdictKept p v
blamed_kept p (Ok m) h = tt
blamed_kept p (No r) h = fault_within p r h

finish_kept : (p : ℕ) (c : Conf) → ConfKept p c → VerdictKept p (finish p c)
finish_kept p (fail r) h = h
finish_kept p (at m d k) h = blamed_kept p (finish p (at m d k)) (ends_on p (at m d k) tt h)

read_kept : (t : List ℕ) (p : ℕ) (c : Conf) → ConfKept p c → VerdictKept (p + length t) (read p c t)
unfolding read
read_kept [] p c h = let e : p + 0 ≡ p = omega arith in rw e (finish_kept p c h)
read_kept (b ∷ t) p c h =
    let e : p + suc (length t) ≡ suc p + length t = omega arith in
    rw e (read_kept t (suc p) (step p c b) (step_kept p c b h))

fault_place : (t : List ℕ) (a : Result (Unit {0}) IllFormed) → Judged t a → VerdictKept (length t) (decoded a t)
unfolding decoded reading
fault_place t (Std.Ok v) j = let e : 0 + length t ≡ length t = omega arith in rw e at (read_kept t 0 (at (base want) depth_limit []) tt)
fault_place t (Std.Err k) j = let f = utf8_fault j in omega (arith, simp length-append at (ap length f.split), f.place)

-- every refusal's place is at most the text's length
pub place_within : (t : List ℕ) → VerdictKept (length t) (verdict t)
unfolding verdict
place_within t = go (leb (length t) text_limit) refl
  where
    go : (x : Bool) → leb (length t) text_limit ≡ x → VerdictKept (length t) (cond x (decoded (judged t) t) (No TextTooLong))
    go true e = fault_place t (judged t) (judged_is t)
    go false e = omega (arith, leb-false (length t) text_limit e)
