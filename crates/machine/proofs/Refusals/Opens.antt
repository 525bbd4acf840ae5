-- Where a value, a key, a part or what may follow is expected, some bytes finish a text of the bare grammar. Assumes nothing.
use Prim.Native.Nat.{ℕ, suc}
use mathlib.Core.Path.{◌≡◌, sym, subst}
use mathlib.Core.Bool.{true, false}
use mathlib.Core.List.{List, [], ◌∷◌, ◌++◌, append_assoc, append-nil}
use Rattle.meaning.specs.Letters.{letters, ch}
use Rattle.meaning.specs.Limits.{depth_limit}
use Rattle.meaning.specs.Meaning.{Meaning, Meanings, Members}
use Rattle.grammar.specs.Checks.{Room}
use Rattle.grammar.specs.Comments.{Ws, Last}
use Rattle.grammar.specs.Strings.{double, Chars, Quoted, StringPart, Concat, String}
use Rattle.grammar.specs.Binary.{BValue, Binary}
use Rattle.grammar.specs.Keys.{Key}
use Rattle.grammar.specs.Values.{elements, members, Closes, Value, Rest, After, Item, Loose}
use Rattle.machine.specs.Machine.{Use, as_value, as_key, Got, Base, want, want_key, want_string, want_binary, got, Frame, inside, pair}
use Rattle.grammar.specs.Refused.{Opens}
use Rattle.machine.proofs.Refusals.Loose.{loose_value, loose_key, loose_string}
use Rattle.machine.proofs.Refusals.Bases

-- less begins it too
pub fewer : (a b : List ℕ) → Opens (a ++ b) → Opens a
fewer a b (Opens.opens s m x) = Opens.opens (b ++ s) m (subst (λ (t : List ℕ). Loose false t m) (append_assoc a b s) x)

-- ---- a value without checks, where one may begin

-- with layout behind it: all brackets are closed after it
pub plug : (k : List Frame) (d : ℕ) (l : List ℕ) → Bases.ValAt k d l → (b w : List ℕ) (m : Meaning) → Value false depth_limit b m → Ws w → Opens (l ++ (b ++ w))
plug [] d l h b w m v x = Opens.opens [] m (rw append-nil (Loose.text h.1 v (Last.ended x) tt))
plug (inside (elements y) ∷ k) d l h b w m v x =
    let i = h.inner in
    let y' = elements (Meanings.more y m) in
    let t = b ++ (w ++ letters "]") in
    let r : Rest false depth_limit (elements Meanings.none) (i ++ t) y' = h.so false t y' (Rest.item Ws.none (Item.element v) (After.end x Closes.bracket)) in
    let o = plug k (suc d) h.outer h.stands (ch "[" ∷ (i ++ t)) [] (Meaning.array (Meanings.more y m)) (Value.array Room.stays r) Ws.none in
    fewer (l ++ (b ++ w)) (letters "]") (subst Opens (rw (h.split, append-nil) (closes h.outer i b w (ch "[") (ch "]"))) o)
  where
    closes : (o i b w : List ℕ) (c e : ℕ) → o ++ (c ∷ (i ++ (b ++ (w ++ (e ∷ []))))) ≡ ((o ++ (c ∷ i)) ++ (b ++ w)) ++ (e ∷ [])
    closes o i b w c e = simp append_assoc
plug (inside (members y) ∷ k) d l h b w m v x = absurd h
plug (pair y u ∷ k) d l h b w m v x =
    let n = h.within in
    let i = n.inner in
    let a = h.body ++ (h.lay ++ (ch ":" ∷ (h.more ++ b))) in
    let y' = members (Members.member y u m) in
    let t = a ++ (w ++ letters "}") in
    let e = Item.member (loose_key h.is) h.layout h.further v in
    let r : Rest false depth_limit (members Members.bare) (i ++ t) y' = n.so false t y' (Rest.item Ws.none e (After.end x Closes.brace)) in
    let o = plug k (suc d) n.outer n.stands (ch "{" ∷ (i ++ t)) [] (Meaning.object (Members.member y u m)) (Value.object Room.stays r) Ws.none in
    let f = Bases.respelt n.outer i h.body h.lay h.more b w (letters "}") (ch "{") (ch ":") in
    fewer (l ++ (b ++ w)) (letters "}") (subst Opens (rw (h.split, n.split, append-nil) (sym f)) o)

-- a key without checks, where one may begin
pub plug_key : (k : List Frame) (d : ℕ) (l : List ℕ) → Bases.KeyAt k d l → (b w : List ℕ) (u : List ℕ) → Key false b u → Ws w → Opens (l ++ (b ++ w))
plug_key [] d l h b w u v x = absurd h
plug_key (inside (elements y) ∷ k) d l h b w u v x = absurd h
plug_key (inside (members y) ∷ k) d l h b w u v x =
    let i = h.inner in
    let a = b ++ (w ++ letters ":null") in
    let y' = members (Members.member y u Meaning.null) in
    let t = a ++ letters "}" in
    let e = Item.member v x Ws.none Value.null_word in
    let r : Rest false depth_limit (members Members.bare) (i ++ t) y' = h.so false t y' (Rest.item Ws.none e (After.end Ws.none Closes.brace)) in
    let n = Meaning.object (Members.member y u Meaning.null) in
    let o = plug k (suc d) h.outer h.stands (ch "{" ∷ (i ++ t)) [] n (Value.object Room.stays r) Ws.none in
    fewer (l ++ (b ++ w)) (letters ":null}") (subst Opens (rw (h.split, append-nil) (closes h.outer i b w (letters ":null") (letters "}") (ch "{"))) o)
  where
    closes : (o i b w n e : List ℕ) (c : ℕ) → o ++ (c ∷ (i ++ ((b ++ (w ++ n)) ++ e))) ≡ ((o ++ (c ∷ i)) ++ (b ++ w)) ++ (n ++ e)
    closes o i b w n e c = simp append_assoc
plug_key (pair y z ∷ k) d l h b w u v x = absurd h

-- a string without checks, as a value or as a key
pub plug_string : (z : Use) (k : List Frame) (d : ℕ) (l : List ℕ) → Bases.StartAt z k d l → (b w u : List ℕ) → String false b u → Ws w → Opens (l ++ (b ++ w))
plug_string as_value k d l h b w u v x = plug k d l h b w (Meaning.string u) (Value.string v) x
plug_string as_key k d l h b w u v x = plug_key k d l h b w u (Key.string v) x

-- ---- at a base

val_opens : (k : List Frame) (d : ℕ) (l : List ℕ) → Bases.ValAt k d l → Opens l
val_opens k d l h = fewer l (letters "null" ++ []) (plug k d l h (letters "null") [] Meaning.null Value.null_word Ws.none)

key_opens : (k : List Frame) (d : ℕ) (l : List ℕ) → Bases.KeyAt k d l → Opens l
key_opens k d l h =
    fewer l (letters "\"\"" ++ []) (plug_key k d l h (letters "\"\"") [] []
    (Key.string (Concat.part (StringPart.one_line (Quoted.quoted double Chars.none)))) Ws.none)

-- parts, a plus, and one more part without checks
pub plug_part : (z : Use) (k : List Frame) (d : ℕ) (u l : List ℕ) → Bases.Plus (Bases.StartAt z k d) (λ a. String true a u) l → (b v : List ℕ)
    → StringPart false b v → Opens (l ++ b)
plug_part z k d u l h b v y =
    subst Opens (rw (h.split, append-nil) (joins h.front h.body h.lay h.more b (ch "+")))
    (plug_string z k d h.front h.starts (h.body ++ (h.lay ++ (ch "+" ∷ (h.more ++ b)))) [] (u ++ v)
    (Bases.concat_join (loose_string h.is) h.layout h.further y) Ws.none)
  where
    joins : (f a y m b : List ℕ) (c : ℕ) → f ++ (a ++ (y ++ (c ∷ (m ++ b)))) ≡ (f ++ (a ++ (y ++ (c ∷ m)))) ++ b
    joins f a y m b c = simp append_assoc

pub plug_binary : (k : List Frame) (d : ℕ) (u l : List ℕ) → Bases.Plus (Bases.ValAt k d) (λ a. Binary a u) l → (b v : List ℕ) → BValue b v → Opens (l ++ b)
plug_binary k d u l h b v y =
    subst Opens (rw (h.split, append-nil) (joins h.front h.body h.lay h.more b (ch "+")))
    (plug k d h.front h.starts (h.body ++ (h.lay ++ (ch "+" ∷ (h.more ++ b)))) [] (Meaning.binary (u ++ v))
    (Value.binary (Bases.concat_join h.is h.layout h.further y)) Ws.none)
  where
    joins : (f a y m b : List ℕ) (c : ℕ) → f ++ (a ++ (y ++ (c ∷ (m ++ b)))) ≡ (f ++ (a ++ (y ++ (c ∷ m)))) ++ b
    joins f a y m b c = simp append_assoc

pub base_opens : (k : List Frame) (d : ℕ) (s : Base) (l : List ℕ) → Bases.BaseAt k d s l → Opens l
base_opens k d want l h = val_opens k d l h
base_opens k d want_key l h = key_opens k d l h
base_opens k d (want_string z u) l h =
    fewer l (letters "\"\"") (plug_part z k d u l h (letters "\"\"") [] (StringPart.one_line (Quoted.quoted double Chars.none)))
base_opens k d (want_binary u) l h = fewer l (letters "$") (plug_binary k d u l h (letters "$") [] BValue.empty)
base_opens k d (got (Got.value m)) l h = rw h.split (plug k d h.front h.starts h.body h.lay m (loose_value h.is) h.layout)
base_opens k d (got (Got.key u)) l h = rw h.split (plug_key k d h.front h.starts h.body h.lay u (loose_key h.is) h.layout)
base_opens k d (got (Got.string z u)) l h = rw h.split (plug_string z k d h.front h.starts h.body h.lay u (loose_string h.is) h.layout)
base_opens k d (got (Got.binary u)) l h =
    rw h.split (plug k d h.front h.starts h.body h.lay (Meaning.binary u) (Value.binary h.is) h.layout)
