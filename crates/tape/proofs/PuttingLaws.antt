-- Put: where there is room, and where there is none; one piece after the other. Assumes nothing.
use mathlib.Core.Path.{◌≡◌, refl, sym, ap, ap₂, ◌∙◌}
use mathlib.Core.Bool.{Bool, true, false, cond}
use mathlib.Core.List.{List, [], ◌∷◌, ◌++◌, append_assoc, append-nil}
use Prim.Native.Nat.{ℕ, suc, ◌+◌, ◌-◌, ◌*◌, ◌≤◌, ◌<◌}
use native.Mathlib.Omega.{arith}
use lib.Dec.{ltb}
use lib.ListN.{length, take, drop, set, drop_of_length-le}
use lib.Seq.{sets, length-sets, sets-eq, drop-drop}
use borrow.Author.Tests.{lt-ltb, le-ltb}
use Rattle.meaning.specs.declared.Record.{Record}
use Rattle.meaning.specs.Bytes.{le}
use Rattle.meaning.specs.Tape.{record_bytes}
use Rattle.meaning.specs.Between.Words.{four_words}
use Rattle.meaning.specs.Look.{whole_records}
use Rattle.meaning.proofs.Bytes.{le_length}
use Rattle.meaning.proofs.Records.{record_length}
use Rattle.tape.specs.declared.Words.{Words}
use Rattle.tape.specs.Between.Putting.{put_record}
use Rattle.tape.specs.Between.Shapes.{Written}

pub record_room : (tape : List ℕ) (index : ℕ) (r : Record) → index < whole_records tape → put_record tape index r ≡ sets tape (index * 16) (record_bytes r)
unfolding put_record
record_room tape index r h = ap (λ (b : Bool). cond b (sets tape (index * 16) (record_bytes r)) tape) (lt-ltb index (whole_records tape) h)

pub record_no_room : (tape : List ℕ) (index : ℕ) (r : Record) → whole_records tape ≤ index → put_record tape index r ≡ tape
unfolding put_record
record_no_room tape index r h = ap (λ (b : Bool). cond b (sets tape (index * 16) (record_bytes r)) tape) (le-ltb index (whole_records tape) h)

-- what is put has the length that it had
pub put_record_length : (tape : List ℕ) (index : ℕ) (r : Record) → length (put_record tape index r) ≡ length tape
unfolding put_record
put_record_length tape index r = go (ltb index (whole_records tape))
  where
    go : (b : Bool) → length (cond b (sets tape (index * 16) (record_bytes r)) tape) ≡ length tape
    go true = length-sets tape (index * 16) (record_bytes r)
    go false = refl

-- one piece, then the next
pub sets_append : (l : List ℕ) (i j : ℕ) (a b : List ℕ) → i + length a ≡ j → sets (sets l i a) j b ≡ sets l i (a ++ b)
sets_append l i j [] b e = let z : j ≡ i = omega arith in ap (λ (k : ℕ). sets l k b) z
sets_append l i j (x ∷ a) b e = sets_append (set l i x) (suc i) j a b (omega arith)

-- the four numbers, one after the other
words_length : (a b c d : ℕ) → length (four_words a b c d) ≡ 16
unfolding four_words le
words_length a b c d = refl

put_words : (t : List ℕ) (p a b c d : ℕ)
    → sets (sets (sets (sets t p (le 2 a)) (p + 2) (le 2 b)) (p + 4) (le 4 c)) (p + 8) (le 8 d) ≡ sets t p (four_words a b c d)
unfolding four_words
put_words t p a b c d =
    let x = sets t p (le 2 a) in
    let y = sets x (p + 2) (le 2 b) in
    sets_append y (p + 4) (p + 8) (le 4 c) (le 8 d) (omega (arith, le_length 4 c))
    ∙ sets_append x (p + 2) (p + 4) (le 2 b) (le 4 c ++ le 8 d) (omega (arith, le_length 2 b))
    ∙ sets_append t p (p + 2) (le 2 a) (le 2 b ++ (le 4 c ++ le 8 d)) (omega (arith, le_length 2 a))

-- over all of sixteen bytes
pub words_all : (t t1 t2 t3 t4 : List ℕ) (a b c d : ℕ) → length t ≡ 16 → t1 ≡ sets t 0 (le 2 a) → t2 ≡ sets t1 2 (le 2 b)
    → t3 ≡ sets t2 4 (le 4 c) → t4 ≡ sets t3 8 (le 8 d) → t4 ≡ four_words a b c d
words_all t t1 t2 t3 t4 a b c d h e1 e2 e3 e4 =
    let n = words_length a b c d in
    e4
    ∙ ap (λ (x : List ℕ). sets x 8 (le 8 d)) (e3 ∙ ap (λ (x : List ℕ). sets x 4 (le 4 c)) (e2 ∙ ap (λ (x : List ℕ). sets x 2 (le 2 b)) e1))
    ∙ put_words t 0 a b c d
    ∙ sets-eq (four_words a b c d) t 0 (omega arith)
    ∙ ap (λ (x : List ℕ). four_words a b c d ++ x) (drop_of_length-le t {i = 0 + length (four_words a b c d)} (omega arith))
    ∙ append-nil (four_words a b c d)

-- a part of the bytes that was lent, come back
pub put_part : (t part vs : List ℕ) (p e : ℕ) → e ≡ p + length vs → e ≤ length t → part ≡ vs
    → take p t ++ (part ++ drop (e - p) (drop p t)) ≡ sets t p vs
put_part t part vs p e z h q =
    let n : e - p ≡ length vs = omega arith in
    ap₂ (λ (x : List ℕ) (k : ℕ). take p t ++ (x ++ drop k (drop p t))) q n
    ∙ ap (λ (x : List ℕ). take p t ++ (vs ++ x)) (drop-drop (length vs) p t)
    ∙ sym (append_assoc (take p t) vs (drop (p + length vs) t))
    ∙ sym (sets-eq vs t p (omega arith))

pub same_length : (t u vs : List ℕ) (p : ℕ) → u ≡ sets t p vs → length u ≡ length t
same_length t u vs p e = ap length e ∙ length-sets t p vs

-- a number's bytes
pub put_number : (t part : List ℕ) (w n p e : ℕ) → e ≡ p + w → e ≤ length t → part ≡ le w n
    → take p t ++ (part ++ drop (e - p) (drop p t)) ≡ sets t p (le w n)
put_number t part w n p e z h q = put_part t part (le w n) p e (omega (arith, le_length w n)) h q

-- a record, by its four numbers
pub put_by_words : (t part : List ℕ) (index e : ℕ) (r : Record) (w : Words) → Written r w → index < whole_records t → e ≡ index * 16 + 16
    → part ≡ four_words w.mark w.low w.mid w.high
    → take (index * 16) t ++ (part ++ drop (e - index * 16) (drop (index * 16) t)) ≡ put_record t index r
put_by_words t part index e r w f h z q =
    let n = record_length r in
    put_part t part (record_bytes r) (index * 16) e (omega arith) (omega arith) (q ∙ sym f.bytes_are) ∙ sym (record_room t index r h)
