-- The bytes that the machine has taken begin a text of the bare grammar. Assumes nothing.
use Prim.Native.Nat.{ℕ, ◌≤◌, ◌<◌}
use mathlib.Core.Path.{◌≡◌, refl, sym, ap, ◌∙◌, subst}
use mathlib.Core.Bool.{false}
use mathlib.Core.Logic.{◌⊎◌, inl, inr}
use mathlib.Core.List.{List, [], ◌∷◌, ◌++◌, append_assoc, append-nil}
use native.Mathlib.Decide.{dec_lt}
use native.Mathlib.Omega.{arith}
use Rattle.rules.specs.Rfc3629.{Octets}
use Rattle.rules.proofs.Characters.{split_ascii, join, Each, all_none, all_more, each_at, small}
use Rattle.meaning.specs.Letters.{letters, ch}
use Rattle.meaning.specs.Limits.{depth_limit}
use Rattle.meaning.specs.Meaning.{Meaning}
use Rattle.meaning.specs.declared.Time.TheVariants.{LocalDate}
use Rattle.grammar.specs.Characters.{Many}
use Rattle.grammar.specs.Comments.{Blank, LineEnd, Stars, CBlock, Ws}
use Rattle.grammar.specs.Times.{TimeValue}
use Rattle.grammar.specs.Strings.{StringPart, Concat}
use Rattle.grammar.specs.Binary.{BValue}
use Rattle.grammar.specs.Keys.{Key}
use Rattle.grammar.specs.Values.{Value}
use Rattle.machine.specs.Machine
use Rattle.machine.specs.Scan.{Out, takes, stops, breaks}
use Rattle.machine.specs.Machine.{Use, Got, Base, Frame, base, line, item, Conf, at, fail, step}
use Rattle.machine.specs.Numeric
use Rattle.machine.specs.Strings
use Rattle.machine.specs.Binaries
use Rattle.machine.specs.Names
use Rattle.grammar.specs.Refused.{Opens}
use Rattle.machine.proofs.Runs.{steps_with}
use Rattle.machine.proofs.Layouts.{NoteIs, note_is_lem}
use Rattle.machine.proofs.Places.{Live}
use Rattle.machine.proofs.Numeric.{NumericItem, NumericRest, numeric_is, Taken, numeric_taken}
use Rattle.machine.proofs.Strings.Ascii.{Ascii, ascii_octets}
use Rattle.machine.proofs.Binaries.{BinaryRest, binary_is, binary_of}
use Rattle.machine.proofs.Names.{NameRest, name_is, name_of}
use Rattle.machine.proofs.Refusals.Loose.{loose_value}
use Rattle.machine.proofs.Refusals.Finishes.{numeric_finish, binary_finish, name_finish}
use Rattle.machine.proofs.Refusals.Parts.{PartBare, bare_is, raw_whole, steps_sane, finish, Clean, steps_last, HighOut, clean_or_taken}
use Rattle.machine.proofs.Refusals.Bases
use Rattle.machine.proofs.Refusals.Confs.{Lined, Blocked, Starred, Slashed, PartStart, BinaryStart, ItemAt, ConfAt}
use Rattle.machine.proofs.Refusals.Reached.{line_done, star_at, block_done}
use Rattle.machine.proofs.Refusals.Opens.{fewer, plug, plug_key, plug_string, plug_part, plug_binary, base_opens}

-- ---- items

plug_now : (k : List Frame) (d : ℕ) (l : List ℕ) → Bases.ValAt k d l → (b : List ℕ) (m : Meaning) → Value false depth_limit b m → Opens (l ++ b)
plug_now k d l h b m v = subst Opens (ap (λ (x : List ℕ). l ++ x) (append-nil b)) (plug k d l h b [] m v Ws.none)

taken_opens : (k : List Frame) (d : ℕ) (l : List ℕ) → Bases.ValAt k d l → {b : List ℕ} {m : Meaning} → Taken false b m → Opens (l ++ b)
taken_opens k d l h (Taken.item {a = b} (NumericItem.number {n = n} y)) = plug_now k d l h b (Meaning.number n) (Value.number y)
taken_opens k d l h (Taken.item {a = b} (NumericItem.time_value {t = t} y)) = plug_now k d l h b (Meaning.time t) (Value.time_value y)
taken_opens k d l h (Taken.trailed {a = a} {d = e} y) =
    plug k d l h a (letters " ") (Meaning.time (LocalDate e)) (Value.time_value (TimeValue.local_date y)) (Ws.blank Blank.space Ws.none)

-- behind the bytes of an item so far
behind : (f b l a : List ℕ) → l ≡ f ++ b → Opens (f ++ (b ++ a)) → Opens l
behind f b l a e h = fewer l a (subst Opens (rw e (sym (append_assoc f b a))) h)

numeric_opens : (p : ℕ) (k : List Frame) (d : ℕ) (s : Numeric.St) (l : List ℕ) → ItemAt p k d (Machine.numeric s) l → Opens l
numeric_opens p k d s l h =
    let x = numeric_finish s in
    behind h.front h.body l x.0 h.split (taken_opens k d h.front h.starts
    (numeric_taken (steps_with Numeric.scan (NumericRest false) (numeric_is false) h.steps x.2)))

part_opens : (z : Use) (u : List ℕ) (k : List Frame) (d : ℕ) (f b v : List ℕ) → PartStart z u k d f → StringPart false b v → Opens (f ++ b)
part_opens z u k d f b v (inl h) y = subst Opens (ap (λ (x : List ℕ). f ++ x) (append-nil b)) (plug_string z k d f h.0 b [] v (Concat.part y) Ws.none)
part_opens z u k d f b v (inr h) y = plug_part z k d u f h b v y

binary_opens : (u : List ℕ) (k : List Frame) (d : ℕ) (f b v : List ℕ) → BinaryStart u k d f → BValue b v → Opens (f ++ b)
binary_opens u k d f b v (inl h) y = plug_now k d f h.0 b (Meaning.binary v) (Value.binary (Concat.part y))
binary_opens u k d f b v (inr h) y = plug_binary k d u f h b v y

-- in UTF-8
string_opens : (p : ℕ) (z : Use) (u : List ℕ) (k : List Frame) (d : ℕ) (s : Strings.St) (l : List ℕ) → Octets l → ItemAt p k d (Machine.string_part z u s) l
    → Opens l
string_opens p z u k d s l o h =
    let x = finish s (steps_sane h.steps tt) in
    let a = x.0 in
    let w : PartBare Strings.begin (h.body ++ a) [] = steps_with Strings.scan PartBare bare_is h.steps x.1 in
    let q : Octets (h.front ++ ((h.body ++ a) ++ [])) = subst Octets (rw (h.split, append-nil) (append_assoc h.front h.body a))
    (join o (ascii_octets x.2)) in
    behind h.front h.body l a h.split (part_opens z u k d h.front (h.body ++ a) w.0 h.starts
    (raw_whole h.front (h.body ++ a) [] w.1 q))

-- in UTF-8, where it is a string part
abbrev IsPart : Machine.Item → Type 0
IsPart (Machine.string_part z u s) = Unit {0}
IsPart (Machine.word w m) = ⊥
IsPart (Machine.numeric s) = ⊥
IsPart (Machine.binary_part u s) = ⊥
IsPart (Machine.identifier s) = ⊥

item_opens : (p : ℕ) (k : List Frame) (d : ℕ) (i : Machine.Item) (l : List ℕ) → (IsPart i → Octets l) → ItemAt p k d i l → Opens l
item_opens p k d (Machine.word w m) l o h =
    behind h.front h.body l w h.split (plug_now k d h.front h.starts (h.body ++ w) m (loose_value h.is))
item_opens p k d (Machine.numeric s) l o h = numeric_opens p k d s l h
item_opens p k d (Machine.string_part z u s) l o h = string_opens p z u k d s l (o tt) h
item_opens p k d (Machine.binary_part u s) l o h =
    let x = binary_finish s in
    behind h.front h.body l x.0 h.split (binary_opens u k d h.front (h.body ++ x.0) x.1 h.starts
    (binary_of (steps_with Binaries.scan BinaryRest binary_is h.steps x.2)))
item_opens p k d (Machine.identifier s) l o h =
    let x = name_finish s in
    let y = name_of (steps_with Names.scan NameRest name_is h.steps x.2) in
    behind h.front h.body l x.0 h.split (subst Opens (ap (λ (c : List ℕ). h.front ++ c) (append-nil (h.body ++ x.0)))
    (plug_key k d h.front h.starts (h.body ++ x.0) [] (h.body ++ x.0) (Key.identifier y.0) Ws.none))

-- ---- layout

slash_opens : (k : List Frame) (d : ℕ) (s : Base) (l : List ℕ) → Slashed k d s l → Opens l
slash_opens k d s l h =
    let w : Ws (letters "/**/") = Ws.block (CBlock.c_block Many.none Stars.one) Ws.none in
    fewer l (letters "**/") (subst Opens (rw h.2 (sym (append_assoc h.0 (letters "/") (letters "**/"))))
    (base_opens k d s (h.0 ++ letters "/**/") (Bases.base_more w k d s h.0 h.1)))

literal : (a : List ℕ) → Each Ascii a → {l : List ℕ} → Octets l → Octets (l ++ a)
literal a x o = join o (ascii_octets x)

slash_byte : Each Ascii (letters "/")
slash_byte = all_more {b = ch "/"} (omega arith) all_none

star_opens : (k : List Frame) (d : ℕ) (s : Base) (l : List ℕ) → Octets l → Starred k d s l → Opens l
star_opens k d s l o h = fewer l (letters "/") (base_opens k d s (l ++ letters "/") (block_done k d s l [] (literal (letters "/") slash_byte o) h))

block_opens : (k : List Frame) (d : ℕ) (s : Base) (l : List ℕ) → Octets l → Blocked k d s l → Opens l
block_opens k d s l o h =
    fewer l (letters "*") (star_opens k d s (l ++ letters "*") (literal (letters "*") (all_more {b = ch "*"} (omega arith) all_none) o) (star_at k d s l h))

line_opens : (k : List Frame) (d : ℕ) (s : Base) (l : List ℕ) → Octets l → Lined k d s l → Opens l
line_opens k d s l o h =
    fewer l (letters "\n") (base_opens k d s (l ++ letters "\n") (line_done k d s l (ch "\n") [] LineEnd.line_feed
    (literal (letters "\n") (all_more {b = ch "\n"} (omega arith) all_none) o) h))

-- what the machine lives after, in UTF-8, begins a text of the bare grammar
pub conf_opens : (t : List ℕ) (p : ℕ) (c : Conf) (l : List ℕ) → Live c → Octets l → ConfAt t p c l → Opens l
conf_opens t p (fail r) l e o h = absurd e
conf_opens t p (at (base s) d k) l e o h = base_opens k d s l h
conf_opens t p (at (Machine.slash s) d k) l e o h = slash_opens k d s l h
conf_opens t p (at (line s) d k) l e o h = line_opens k d s l o h
conf_opens t p (at (Machine.block s) d k) l e o h = block_opens k d s l o h
conf_opens t p (at (Machine.star s) d k) l e o h = star_opens k d s l o h
conf_opens t p (at (item i) d k) l e o h = item_opens p k d i l (λ x. o) h

-- ---- before a byte that is refused

-- a failed step fails
abbrev pub Fails : Conf → Type 0
Fails (fail r) = Unit {0}
Fails (at m d k) = ⊥

note_high : (b : ℕ) → 0x80 ≤ b → Machine.note_of b ≡ Machine.plain_n
note_high b l = go (Machine.note_of b) (note_is_lem b)
  where
    go : (n : Machine.Note) → NoteIs b n → n ≡ Machine.plain_n
    go Machine.plain_n y = refl
    go Machine.line_end y = absurd (omega arith)
    go Machine.star_n y = absurd (omega arith)
    go Machine.slash_n y = absurd (omega arith)
    go Machine.control_n y = absurd (omega arith)

-- the text up to a byte of ASCII
up_to : (l : List ℕ) (b : ℕ) (r : List ℕ) → Octets (l ++ (b ∷ r)) → b < 0x80 → Octets l
up_to l b r o e = split_ascii o l b r e refl

end_octets : (l x : List ℕ) (c b : ℕ) (r : List ℕ) → l ≡ x ++ (c ∷ []) → Ascii c → Octets (l ++ (b ∷ r)) → Octets l
end_octets l x c b r e i o =
    let f : l ++ (b ∷ r) ≡ x ++ (c ∷ b ∷ r) = rw e (append_assoc x (c ∷ []) (b ∷ r)) in
    let u : Octets x = split_ascii o x c (b ∷ r) (omega arith) f in
    rw e (join u (ascii_octets (all_more i all_none)))

start_opens : (z : Use) (u : List ℕ) (k : List Frame) (d : ℕ) (f : List ℕ) → PartStart z u k d f → Opens f
start_opens Machine.as_value u k d f (inl h) = base_opens k d Machine.want f h.0
start_opens Machine.as_key u k d f (inl h) = base_opens k d Machine.want_key f h.0
start_opens z u k d f (inr h) = base_opens k d (Machine.want_string z u) f h

taken_lives : (p d : ℕ) (k : List Frame) (b : ℕ) (z : Use) (u : List ℕ) (o : Out Strings.St (List ℕ)) → HighOut o
    → Fails (Machine.on_out p d k b (Machine.lift (Machine.string_part z u) (λ v. Got.string z (u ++ v)) o)) → ⊥
taken_lives p d k b z u (takes s) h e = e
taken_lives p d k b z u (stops v) h e = h
taken_lives p d k b z u (breaks r) h e = h

module _ (p : ℕ) (z : Use) (u : List ℕ) (k : List Frame) (d : ℕ) (s : Strings.St) (b : ℕ) (l r : List ℕ) (o : Octets (l ++ (b ∷ r)))
    (h : ItemAt p k d (Machine.string_part z u s) l) (e : Fails (step p (at (item (Machine.string_part z u s)) d k) b)) where
  by_last : (h.body ≡ []) ⊎ ((x : List ℕ) × (c : ℕ) × (h.body ≡ x ++ (c ∷ [])) × Ascii c) → Opens l
  by_last (inl q) = subst Opens (sym (h.split ∙ ap (λ (a : List ℕ). h.front ++ a) q ∙ append-nil h.front)) (start_opens z u k d h.front h.starts)
  by_last (inr q) =
      string_opens p z u k d s l (end_octets l (h.front ++ q.0) q.1 b r
      (h.split ∙ ap (λ (a : List ℕ). h.front ++ a) q.2 ∙ sym (append_assoc h.front q.0 (q.1 ∷ []))) q.3 o) h

  part_before : Opens l
  part_before = go (dec_lt b 0x80)
    where
      high : Clean s ⊎ HighOut (Strings.scan p s b) → Opens l
      high (inl c) = by_last (steps_last h.steps tt c)
      high (inr c) = absurd (taken_lives p d k b z u (Strings.scan p s b) c e)

      go : Dec (b < 0x80) → Opens l
      go (yes i) = string_opens p z u k d s l (up_to l b r o i) h
      go (no i) = let t = each_at l b r (small o) in high (clean_or_taken p s b (steps_sane h.steps tt) (omega arith) (omega arith))

item_before : (p : ℕ) (k : List Frame) (d : ℕ) (i : Machine.Item) (b : ℕ) (l r : List ℕ) → Octets (l ++ (b ∷ r)) → ItemAt p k d i l
    → Fails (step p (at (item i) d k) b) → Opens l
item_before p k d (Machine.word w m) b l r o h e = item_opens p k d (Machine.word w m) l (λ x. absurd x) h
item_before p k d (Machine.numeric s) b l r o h e = item_opens p k d (Machine.numeric s) l (λ x. absurd x) h
item_before p k d (Machine.string_part z u s) b l r o h e = part_before p z u k d s b l r o h e
item_before p k d (Machine.binary_part u s) b l r o h e = item_opens p k d (Machine.binary_part u s) l (λ x. absurd x) h
item_before p k d (Machine.identifier s) b l r o h e = item_opens p k d (Machine.identifier s) l (λ x. absurd x) h

-- in a comment only ASCII is refused
in_comment : (p : ℕ) (c : Conf) (b : ℕ) (l r : List ℕ) → Octets (l ++ (b ∷ r)) → (0x80 ≤ b → Fails (step p c b) → ⊥) → Fails (step p c b) → Octets l
in_comment p c b l r o f e = go (dec_lt b 0x80)
  where
    go : Dec (b < 0x80) → Octets l
    go (yes i) = up_to l b r o i
    go (no i) = absurd (f (omega arith) e)

pub opens_before : (t : List ℕ) (p : ℕ) (c : Conf) (b : ℕ) (l r : List ℕ) → Live c → Octets (l ++ (b ∷ r)) → ConfAt t p c l → Fails (step p c b) → Opens l
opens_before t p (fail x) b l r v o h e = absurd v
opens_before t p (at (base s) d k) b l r v o h e = base_opens k d s l h
opens_before t p (at (Machine.slash s) d k) b l r v o h e = slash_opens k d s l h
opens_before t p (at (line s) d k) b l r v o h e = line_opens k d s l (in_comment p (at (line s) d k) b l r o (λ i x. rw (note_high b i) at x) e) h
opens_before t p (at (Machine.block s) d k) b l r v o h e =
    block_opens k d s l (in_comment p (at (Machine.block s) d k) b l r o (λ i x. rw (note_high b i) at x) e) h
opens_before t p (at (Machine.star s) d k) b l r v o h e =
    star_opens k d s l (in_comment p (at (Machine.star s) d k) b l r o (λ i x. rw (note_high b i) at x) e) h
opens_before t p (at (item i) d k) b l r v o h e = item_before p k d i b l r o h e
