-- Layout, forwards: what the machine does over blanks and comments. Assumes nothing.
use Prim.Native.Nat.{ℕ, suc, ◌≤◌, ◌<◌}
use mathlib.Core.Path.{◌≡◌, refl, ap, ◌∙◌}
use mathlib.Core.Logic.{inl, inr}
use mathlib.Core.List.{List, [], ◌∷◌, ◌++◌, append_assoc}
use native.Mathlib.Decide.{dec_lt}
use native.Mathlib.Omega.{arith}
use lib.ListN.{length}
use Rattle.rules.specs.Rfc3629.{encode}
use Rattle.rules.proofs.Characters.{Each, all_none, all_more, High, long}
use Rattle.rules.proofs.Numbers.{encoded, row_1}
use Rattle.grammar.proofs.Bytewise.{longer}
use Rattle.meaning.specs.Letters.{ch}
use Rattle.grammar.specs.Characters.{Range, Of, Among, Many}
use Rattle.grammar.specs.Comments.{CBeginLine, c_char, CLine, c_no_star, c_no_star_or_slash, Stars, CInner, CBlock, Blank, LineEnd, Ws}
use Rattle.machine.specs.Machine
use Rattle.machine.specs.Machine.{Base, want, want_key, want_string, want_binary, got, Mode, base, slash, line, block, star, Frame, Conf, at, fail, step}
use Rattle.machine.specs.Machine.{read, finish, Verdict, class_of, blank_c, note_of, Note, line_end, star_n, slash_n, plain_n, control_n}
use Rattle.machine.specs.Heard.{Heard, hears, tell}
use Rattle.machine.proofs.Tables.{◌&◌, cut_is}
use Rattle.machine.proofs.Runs.{adv}
use Rattle.machine.proofs.Heard.{read_alike, told_step}

pub adv_join : (p : ℕ) (a b : List ℕ) → adv p (a ++ b) ≡ adv (adv p a) b
adv_join p [] b = refl
adv_join p (x ∷ a) b = adv_join (suc p) a b

-- ---- the bytes of a character of a class: one ASCII byte of the class, or high ones

pub data CharBytes (r : List Range) : List ℕ → Type 0 where
  ascii : {b : ℕ} → b < 0x80 → Of r b → CharBytes r (b ∷ [])
  wide : {b : ℕ} {c : List ℕ} → High b → Each High c → CharBytes r (b ∷ c)

all_wide : {r : List Range} {c : List ℕ} → Each High c → 1 < length c → CharBytes r c
all_wide all_none h = absurd (omega arith)
all_wide (all_more x y) h = CharBytes.wide x y

pub char_bytes : {r : List Range} {c : List ℕ} → Among r c → CharBytes r c
char_bytes {r} (Among.character {n = n} s o) = go (dec_lt 0x7F n)
  where
    go : Dec (0x7F < n) → CharBytes r (encode n)
    go (no h) = rw (row_1 n (omega arith)) (CharBytes.ascii {b = n} (omega arith) o)
    go (yes h) = all_wide (long (encoded n s) (longer n h)) (longer n h)

-- ---- comments, a byte at a time

-- what a byte's note says of it
abbrev pub NoteIs : ℕ → Note → Type 0
NoteIs b line_end = (0x0A ≤ b) × (b ≤ 0x0D) × ((b ≡ ch "\n" → ⊥) → b ≡ ch "\r")
NoteIs b star_n = b ≡ ch "*"
NoteIs b slash_n = b ≡ ch "/"
NoteIs b plain_n = (b < 0x20 → b ≡ ch "\t") × (b ≡ ch "*" → ⊥) × (b ≡ ch "/" → ⊥)
NoteIs b control_n = (b < 0x20) × (b ≡ ch "\t" → ⊥) × (b ≡ ch "\n" → ⊥) × (b ≡ ch "\r" → ⊥)

pub note_is_lem : (b : ℕ) → NoteIs b (note_of b)
note_is_lem b =
    cut_is NoteIs 0 Machine.notes plain_n b (omega arith)
    ((λ l u. omega arith) & (λ l u. omega arith) & (λ l u. omega arith) & (λ l u. omega arith) & (λ l u. omega arith) &
    (λ l u. omega arith) & (λ l u. omega arith) & (λ l u. omega arith) & (λ l u. omega arith) & (λ l u. omega arith) &
    (λ l. omega arith))

-- what is expected, out of layout or in it
pub data Lay : Type 0 where
  plain_l slash_l line_l block_l star_l : Lay

abbrev pub mode_of : Lay → Base → Mode
mode_of plain_l s = base s
mode_of slash_l s = slash s
mode_of line_l s = line s
mode_of block_l s = block s
mode_of star_l s = star s

-- layout keeps what is expected: a byte of a comment says nothing, and leads to where the same is expected, or is refused
module _ (Q : List Heard → Conf → Type 0) (p d : ℕ) (k : List Frame) (s : Base) (lost : Q [] (Machine.odd p))
    (more : (l : Lay) → Q [] (at (mode_of l s) d k)) where
  slash_keeps : (n : Note) → Q [] (Machine.on_slash p d k s n)
  slash_keeps slash_n = more line_l
  slash_keeps star_n = more block_l
  slash_keeps line_end = lost
  slash_keeps plain_n = lost
  slash_keeps control_n = lost

  line_keeps : (n : Note) → Q [] (Machine.on_line p d k s n)
  line_keeps line_end = more plain_l
  line_keeps control_n = lost
  line_keeps slash_n = more line_l
  line_keeps star_n = more line_l
  line_keeps plain_n = more line_l

  block_keeps : (n : Note) → Q [] (Machine.on_block p d k s n)
  block_keeps star_n = more star_l
  block_keeps control_n = lost
  block_keeps slash_n = more block_l
  block_keeps line_end = more block_l
  block_keeps plain_n = more block_l

  star_keeps : (n : Note) → Q [] (Machine.on_star p d k s n)
  star_keeps slash_n = more plain_l
  star_keeps star_n = more star_l
  star_keeps control_n = lost
  star_keeps line_end = more block_l
  star_keeps plain_n = more block_l

  pub layout_keeps : (b : ℕ) → Q (hears p (at (base s) d k) b) (step p (at (base s) d k) b) → (l : Lay)
      → Q (hears p (at (mode_of l s) d k) b) (step p (at (mode_of l s) d k) b)
  layout_keeps b h plain_l = h
  layout_keeps b h slash_l = slash_keeps (note_of b)
  layout_keeps b h line_l = line_keeps (note_of b)
  layout_keeps b h block_l = block_keeps (note_of b)
  layout_keeps b h star_l = star_keeps (note_of b)

-- a byte that a comment of each kind takes
pub data InLine : Note → Type 0 where
  plain : InLine plain_n
  a_star : InLine star_n
  a_slash : InLine slash_n

pub data InBlock : Note → Type 0 where
  plain : InBlock plain_n
  a_slash : InBlock slash_n
  an_end : InBlock line_end

pub data AfterStar : Note → Type 0 where
  plain : AfterStar plain_n
  an_end : AfterStar line_end

-- tab and every character from U+0020 up
abbrev pub LineByte : ℕ → Type 0
LineByte b = b < 0x20 → b ≡ ch "\t"

-- tab, LF, CR and every character from U+0020 up
abbrev pub BlockByte : ℕ → Type 0
BlockByte b = b < 0x20 → (b ≡ ch "\t" → ⊥) → (b ≡ ch "\n" → ⊥) → b ≡ ch "\r"

in_line : (b : ℕ) (n : Note) → NoteIs b n → LineByte b → InLine n
in_line b plain_n x h = InLine.plain
in_line b star_n x h = InLine.a_star
in_line b slash_n x h = InLine.a_slash
in_line b line_end x h = absurd (omega (arith, h (omega arith)))
in_line b control_n x h = absurd (x.1 (h x.0))

in_block : (b : ℕ) (n : Note) → NoteIs b n → BlockByte b → (b ≡ ch "*" → ⊥) → InBlock n
in_block b plain_n x h f = InBlock.plain
in_block b star_n x h f = absurd (f x)
in_block b slash_n x h f = InBlock.a_slash
in_block b line_end x h f = InBlock.an_end
in_block b control_n x h f = absurd (x.3 (h x.0 x.1 x.2))

after_star : (b : ℕ) (n : Note) → NoteIs b n → BlockByte b → (b ≡ ch "*" → ⊥) → (b ≡ ch "/" → ⊥) → AfterStar n
after_star b plain_n x h f g = AfterStar.plain
after_star b star_n x h f g = absurd (f x)
after_star b slash_n x h f g = absurd (g x)
after_star b line_end x h f g = AfterStar.an_end
after_star b control_n x h f g = absurd (x.3 (h x.0 x.1 x.2))

high_line : (b : ℕ) → High b → LineByte b
high_line b x l = omega arith

high_block : (b : ℕ) → High b → BlockByte b
high_block b x l f g = omega arith

-- ---- the bytes of each class

line_class : (b : ℕ) → Of c_char b → LineByte b
line_class b (inl x) l = omega arith
line_class b (inr (inl x)) l = omega arith
line_class b (inr (inr x)) l = elim x [ ]

pub star_class : (b : ℕ) → Of c_no_star b → BlockByte b × (b ≡ ch "*" → ⊥)
star_class b (inl x) = ((λ l f g. absurd (f (omega arith))), λ e. omega arith)
star_class b (inr (inl x)) = ((λ l f g. absurd (g (omega arith))), λ e. omega arith)
star_class b (inr (inr (inl x))) = ((λ l f g. omega arith), λ e. omega arith)
star_class b (inr (inr (inr (inl x)))) = ((λ l f g. omega arith), λ e. omega arith)
star_class b (inr (inr (inr (inr (inl x))))) = ((λ l f g. omega arith), λ e. omega arith)
star_class b (inr (inr (inr (inr (inr x))))) = elim x [ ]

slash_class : (b : ℕ) → Of c_no_star_or_slash b → BlockByte b × (b ≡ ch "*" → ⊥) × (b ≡ ch "/" → ⊥)
slash_class b (inl x) = ((λ l f g. absurd (f (omega arith))), (λ e. omega arith), λ e. omega arith)
slash_class b (inr (inl x)) = ((λ l f g. absurd (g (omega arith))), (λ e. omega arith), λ e. omega arith)
slash_class b (inr (inr (inl x))) = ((λ l f g. omega arith), (λ e. omega arith), λ e. omega arith)
slash_class b (inr (inr (inr (inl x)))) = ((λ l f g. omega arith), (λ e. omega arith), λ e. omega arith)
slash_class b (inr (inr (inr (inr (inl x))))) = ((λ l f g. omega arith), (λ e. omega arith), λ e. omega arith)
slash_class b (inr (inr (inr (inr (inr (inl x)))))) = ((λ l f g. omega arith), (λ e. omega arith), λ e. omega arith)
slash_class b (inr (inr (inr (inr (inr (inr x)))))) = elim x [ ]

-- ---- runs

module _ (s : Base) (d : ℕ) (k : List Frame) where
  line_on : (p : ℕ) {n : Note} → InLine n → Machine.on_line p d k s n ≡ at (line s) d k
  line_on p InLine.plain = refl
  line_on p InLine.a_star = refl
  line_on p InLine.a_slash = refl

  block_on : (p : ℕ) {n : Note} → InBlock n → Machine.on_block p d k s n ≡ at (block s) d k
  block_on p InBlock.plain = refl
  block_on p InBlock.a_slash = refl
  block_on p InBlock.an_end = refl

  star_on : (p : ℕ) {n : Note} → AfterStar n → Machine.on_star p d k s n ≡ at (block s) d k
  star_on p AfterStar.plain = refl
  star_on p AfterStar.an_end = refl

  line_byte_lem : (p b : ℕ) → LineByte b → step p (at (line s) d k) b ≡ at (line s) d k
  line_byte_lem p b h = line_on p (in_line b (note_of b) (note_is_lem b) h)

  block_byte : (p b : ℕ) → BlockByte b → (b ≡ ch "*" → ⊥) → step p (at (block s) d k) b ≡ at (block s) d k
  block_byte p b h f = block_on p (in_block b (note_of b) (note_is_lem b) h f)

  star_byte : (p b : ℕ) → BlockByte b → (b ≡ ch "*" → ⊥) → (b ≡ ch "/" → ⊥) → step p (at (star s) d k) b ≡ at (block s) d k
  star_byte p b h f g = star_on p (after_star b (note_of b) (note_is_lem b) h f g)

  high_lines : {c : List ℕ} → Each High c → (p : ℕ) (r : List ℕ) → tell p (at (line s) d k) (c ++ r) ≡ tell (adv p c) (at (line s) d k) r
  high_lines all_none p r = refl
  high_lines (all_more {b = b} x y) p r = told_step _ _ _ _ _ _ (line_byte_lem p b (high_line b x)) refl (high_lines y (suc p) r)

  high_blocks : {c : List ℕ} → Each High c → (p : ℕ) (r : List ℕ) → tell p (at (block s) d k) (c ++ r) ≡ tell (adv p c) (at (block s) d k) r
  high_blocks all_none p r = refl
  high_blocks (all_more {b = b} x y) p r = told_step _ _ _ _ _ _ (block_byte p b (high_block b x) (λ e. omega arith)) refl (high_blocks y (suc p) r)

  line_char : {c : List ℕ} → CharBytes c_char c → (p : ℕ) (r : List ℕ) → tell p (at (line s) d k) (c ++ r) ≡ tell (adv p c) (at (line s) d k) r
  line_char (CharBytes.ascii {b = b} l o) p r = told_step _ _ _ _ _ _ (line_byte_lem p b (line_class b o)) refl refl
  line_char (CharBytes.wide x y) p r = high_lines (all_more x y) p r

  block_char : {c : List ℕ} → CharBytes c_no_star c → (p : ℕ) (r : List ℕ) → tell p (at (block s) d k) (c ++ r) ≡ tell (adv p c) (at (block s) d k) r
  block_char (CharBytes.ascii {b = b} l o) p r = let w = star_class b o in told_step _ _ _ _ _ _ (block_byte p b w.0 w.1) refl refl
  block_char (CharBytes.wide x y) p r = high_blocks (all_more x y) p r

  star_char : {c : List ℕ} → CharBytes c_no_star_or_slash c → (p : ℕ) (r : List ℕ) → tell p (at (star s) d k) (c ++ r) ≡ tell (adv p c) (at (block s) d k) r
  star_char (CharBytes.ascii {b = b} l o) p r = let w = slash_class b o in told_step _ _ _ _ _ _ (star_byte p b w.0 w.1 w.2) refl refl
  star_char (CharBytes.wide {b = b} x y) p r =
      told_step _ _ _ _ _ _ (star_byte p b (high_block b x) (λ e. omega arith) (λ e. omega arith)) refl (high_blocks y (suc p) r)

  line_chars : {c : List ℕ} → Many (Among c_char) c → (p : ℕ) (r : List ℕ) → tell p (at (line s) d k) (c ++ r) ≡ tell (adv p c) (at (line s) d k) r
  line_chars Many.none p r = refl
  line_chars (Many.more {c = c} {a = a} x y) p r =
      simp (append_assoc, adv_join) (line_char (char_bytes x) p (a ++ r) ∙ line_chars y (adv p c) r)

  stars_star : {c : List ℕ} → Stars c → (p : ℕ) (r : List ℕ) → tell p (at (star s) d k) (c ++ r) ≡ tell (adv p c) (at (star s) d k) r
  stars_star Stars.one p r = told_step _ _ _ _ _ _ refl refl refl
  stars_star (Stars.more x) p r = told_step _ _ _ _ _ _ refl refl (stars_star x (suc p) r)

  stars_block : {c : List ℕ} → Stars c → (p : ℕ) (r : List ℕ) → tell p (at (block s) d k) (c ++ r) ≡ tell (adv p c) (at (star s) d k) r
  stars_block Stars.one p r = told_step _ _ _ _ _ _ refl refl refl
  stars_block (Stars.more x) p r = told_step _ _ _ _ _ _ refl refl (stars_star x (suc p) r)

  block_inner : {c : List ℕ} → CInner c → (p : ℕ) (r : List ℕ) → tell p (at (block s) d k) (c ++ r) ≡ tell (adv p c) (at (block s) d k) r
  block_inner (CInner.no_star x) p r = block_char (char_bytes x) p r
  block_inner (CInner.stars {s = z} {c = c} x y) p r =
      simp (append_assoc, adv_join) (stars_block x p (c ++ r) ∙ star_char (char_bytes y) (adv p z) r)

  block_inners : {c : List ℕ} → Many CInner c → (p : ℕ) (r : List ℕ) → tell p (at (block s) d k) (c ++ r) ≡ tell (adv p c) (at (block s) d k) r
  block_inners Many.none p r = refl
  block_inners (Many.more {c = c} {a = a} x y) p r =
      simp (append_assoc, adv_join) (block_inner x p (a ++ r) ∙ block_inners y (adv p c) r)

-- the bytes that begin layout stay at each base, and say nothing
abbrev Quiet : ℕ → Conf → ℕ → Conf → Type 0
Quiet p c b d = (step p c b ≡ d) × (hears p c b ≡ [])

on_blank : (p d : ℕ) (k : List Frame) (b : ℕ) (s : Base) → class_of b ≡ blank_c → Quiet p (at (base s) d k) b (at (base s) d k)
on_blank p d k b want e = (rw e, rw e)
on_blank p d k b want_key e = (rw e, rw e)
on_blank p d k b (want_string z u) e = (rw e, refl)
on_blank p d k b (want_binary u) e = (rw e, refl)
on_blank p d k b (got g) e = (rw e, rw e)

blank_class : {b : ℕ} → Blank b → class_of b ≡ blank_c
blank_class Blank.space = refl
blank_class Blank.tab = refl
blank_class Blank.line_feed = refl
blank_class Blank.carriage_return = refl

end_class : {b : ℕ} → LineEnd b → note_of b ≡ line_end
end_class LineEnd.line_feed = refl
end_class LineEnd.carriage_return = refl

on_hash : (p d : ℕ) (k : List Frame) (s : Base) → Quiet p (at (base s) d k) (ch "#") (at (line s) d k)
on_hash p d k want = (refl, refl)
on_hash p d k want_key = (refl, refl)
on_hash p d k (want_string z u) = (refl, refl)
on_hash p d k (want_binary u) = (refl, refl)
on_hash p d k (got g) = (refl, refl)

on_slash_lem : (p d : ℕ) (k : List Frame) (s : Base) → Quiet p (at (base s) d k) (ch "/") (at (slash s) d k)
on_slash_lem p d k want = (refl, refl)
on_slash_lem p d k want_key = (refl, refl)
on_slash_lem p d k (want_string z u) = (refl, refl)
on_slash_lem p d k (want_binary u) = (refl, refl)
on_slash_lem p d k (got g) = (refl, refl)

begin_line : {b : List ℕ} → CBeginLine b → (s : Base) (p d : ℕ) (k : List Frame) (r : List ℕ) → tell p (at (base s) d k) (b ++ r)
    ≡ tell (adv p b) (at (line s) d k) r
begin_line CBeginLine.hash s p d k r = let w = on_hash p d k s in told_step _ _ _ _ _ _ w.0 w.1 refl
begin_line CBeginLine.slashes s p d k r =
    let w = on_slash_lem p d k s in told_step _ _ _ _ _ _ w.0 w.1 (told_step _ _ _ _ _ _ refl refl refl)

pub line_told : {c : List ℕ} → CLine c → (s : Base) (p d : ℕ) (k : List Frame) (r : List ℕ) → tell p (at (base s) d k) (c ++ r)
    ≡ tell (adv p c) (at (line s) d k) r
line_told (CLine.c_line {b = b} {c = c} x y) s p d k r =
    simp (append_assoc, adv_join) (begin_line x s p d k (c ++ r) ∙ line_chars s d k y (adv p b) r)

block_told : {c : List ℕ} → CBlock c → (s : Base) (p d : ℕ) (k : List Frame) (r : List ℕ) → tell p (at (base s) d k) (c ++ r)
    ≡ tell (adv p c) (at (base s) d k) r
block_told (CBlock.c_block {a = a} {s = z} x y) s p d k r =
    let w = on_slash_lem p d k s in
    simp (append_assoc, adv_join)
    (told_step p _ (ch "/") _ _ _ w.0 w.1
    (told_step (suc p) _ (ch "*") _ _ _ refl refl
    (block_inners s d k x (suc (suc p)) (z ++ (ch "/" ∷ r)) ∙ stars_block s d k y (adv (suc (suc p)) a) (ch "/" ∷ r) ∙ told_step _ _ _ _ _ _ refl refl refl)))

pub layout_told : {w : List ℕ} → Ws w → (s : Base) (p d : ℕ) (k : List Frame) (r : List ℕ) → tell p (at (base s) d k) (w ++ r)
    ≡ tell (adv p w) (at (base s) d k) r
layout_told Ws.none s p d k r = refl
layout_told (Ws.blank {b = b} x w) s p d k r =
    let y = on_blank p d k b s (blank_class x) in told_step _ _ _ _ _ _ y.0 y.1 (layout_told w s (suc p) d k r)
layout_told (Ws.line {b = b} {c = c} {a = a} x y w) s p d k r =
    simp (append_assoc, adv_join)
    (line_told x s p d k (b ∷ (a ++ r)) ∙ told_step (adv p c) (at (line s) d k) b (a ++ r) (at (base s) d k) _ (rw (end_class y)) refl
    (layout_told w s (suc (adv p c)) d k r))
layout_told (Ws.block {c = c} {a = a} x w) s p d k r =
    simp (append_assoc, adv_join) (block_told x s p d k (a ++ r) ∙ layout_told w s (adv p c) d k r)

-- ---- the same of what is read

pub stepped : (p : ℕ) (c : Conf) (b : ℕ) (t : List ℕ) (c' : Conf) {v : Verdict} → step p c b ≡ c' → read (suc p) c' t ≡ v → read p c (b ∷ t) ≡ v
unfolding read
stepped p c b t c' e h = ap (λ (x : Conf). read (suc p) x t) e ∙ h

pub line_run : {c : List ℕ} → CLine c → (s : Base) (p d : ℕ) (k : List Frame) (r : List ℕ) → read p (at (base s) d k) (c ++ r)
    ≡ read (adv p c) (at (line s) d k) r
line_run x s p d k r = read_alike [] _ _ _ _ _ _ (line_told x s p d k r)

pub layout_run : {w : List ℕ} → Ws w → (s : Base) (p d : ℕ) (k : List Frame) (r : List ℕ) → read p (at (base s) d k) (w ++ r)
    ≡ read (adv p w) (at (base s) d k) r
layout_run w s p d k r = read_alike [] _ _ _ _ _ _ (layout_told w s p d k r)
