-- The record at an index, tested by its four numbers, and its turn. Assumes nothing.
use mathlib.Core.Path.{◌≡◌, refl, sym, ap, ◌∙◌, subst}
use mathlib.Core.Bool.{Bool, true, false, cond}
use mathlib.Core.List.{List}
use Rattle.std.proofs.Common.{Option, Some, None}
use Prim.Native.Nat.{ℕ, ◌+◌, ◌*◌, ◌≤◌, ◌<◌}
use native.Mathlib.Omega.{arith}
use lib.Dec.{eqb}
use lib.ListN.{get_or}
use borrow.Author.Tests.{eq-eqb, lt-ltb, le-ltb}
use mir.Syntax.{w32}
use mir.Val.{to_z}
use Rattle.meaning.specs.declared.Number.TheVariants.{Finite}
use Rattle.meaning.specs.declared.Record.{Record}
use Rattle.meaning.specs.Limits.{depth_limit}
use Rattle.meaning.specs.Good.{GoodFinite}
use Rattle.meaning.specs.Between.Words.{mark, mark_of, low_of}
use Rattle.meaning.specs.Look.{Fit, Utf8Inside, Ends, OwnFields, whole_records, RecordAt}
use Rattle.rules.specs.Between.Tests as Tests
use Rattle.rules.specs.Between.Tests.{Decides}
use Rattle.tape.specs.declared.Words.{Words}
use Rattle.tape.specs.declared.judging.Turn.{Turn}
use Rattle.tape.specs.Between.Shapes.{Worded, Loaded, only_record, words_at}
use Rattle.tape.specs.Between.Turns.{none, value_due, key_due, pass_of, open_of, leaf_of, turn_of, Tested, passes, fails, LeafIs, leaf, none_there, TurnIs}
use Rattle.tape.specs.Between.Turns.{stands, no}
use Rattle.tape.proofs.ShapesLaws.{flag_small, only_key, only_text, only_finite, only_array, only_object, key_words, text_words, finite_words}
use Rattle.tape.proofs.ShapesLaws.{array_words, object_words, record_of_fits}
use Rattle.tape.proofs.LookingLaws.{loaded_as, record_numbers, record_only, record_there}

-- a test that was not met
pub false_test : {P : Type 0} {b : Bool} → b ≡ false → (P → ⊥) → Decides P b
false_test {P} e n = subst (Decides P) (sym e) (Tests.fails n)

-- where bytes start in their place, and where a container is not too deep
pub pass_here : (size start at : ℕ) → start ≡ at → Some (Turn.Pass (at + size)) ≡ pass_of size start at
unfolding pass_of
pass_here size start at e = sym (ap (λ (b : Bool). cond b (Some (Turn.Pass (at + size))) None) (eq-eqb _ _ e))

pub open_here : (end rest depth : ℕ) → depth < depth_limit → Some (Turn.Open end rest) ≡ open_of end rest depth
unfolding open_of
open_here end rest depth h = sym (ap (λ (b : Bool). cond b (Some (Turn.Open end rest)) None) (lt-ltb _ _ h))

pub open_deep : (end rest depth : ℕ) → depth_limit ≤ depth → open_of end rest depth ≡ None
unfolding open_of
open_deep end rest depth h = ap (λ (b : Bool). cond b (Some (Turn.Open end rest)) None) (le-ltb _ _ h)

-- past the last record
pub past_all : (tape store : List ℕ) (index rest at depth : ℕ) → whole_records tape ≤ index → TurnIs tape store index rest at depth None
past_all tape store index rest at depth h = no (λ r a. absurd (omega (arith, a.within)))

module _ (tape store : List ℕ) (index rest at depth : ℕ) (bytes : (j : ℕ) → get_or tape j 0 < 256) (within : index < whole_records tape)
    (w : Words) (e : w ≡ words_at tape (index * 16))
  where
    loads : Loaded w
    loads = loaded_as tape (index * 16) e bytes

    has : (s : Record) → RecordAt tape store index s → Worded s w
    has s a = subst (Worded s) (sym e) (record_numbers tape store index s a)

    abbrev turn : Record → Option Turn
    turn r = turn_of r (value_due rest) (key_due rest) at depth

    -- r is the one that may stand there, and P says that it does
    tested : {P : Type 0} {t u : Option Turn} (r : Record) → only_record w ≡ r → (P → Worded r w × OwnFields r index (whole_records tape) store)
        → (Worded r w → OwnFields r index (whole_records tape) store → P) → t ≡ turn r → Tested P t u → TurnIs tape store index rest at depth u
    tested r q to back f (passes p g) =
        stands r
        (record_there tape store index bytes within r (subst Fit q (record_of_fits w loads)) (subst (Worded r) e (to p).0) (to p).1)
        (g ∙ f)
    tested r q to back f (fails n) =
        no
        (λ s a.
        let z : s ≡ r = sym (record_only tape store index s a) ∙ ap only_record (sym e) ∙ q in
        ap turn z ∙ sym f ∙ n
        (back (subst (λ (x : Record). Worded x w) z (has s a))
        (subst (λ (x : Record). OwnFields x index (whole_records tape) store) z a.own)))

    abbrev Text : Type 0
    Text = (w.low ≡ 0) × Utf8Inside w.mid w.high store

    abbrev Container : Type 0
    Container = (w.low ≡ 0) × Ends w.high index (whole_records tape)

    -- a key, where one is due
    pub key_turn : {u : Option Turn} → key_due rest ≡ true → w.mark ≡ mark "k" "y" → Tested Text (pass_of w.mid w.high at) u
        → TurnIs tape store index rest at depth u
    unfolding turn_of low_of
    key_turn d m h =
        tested (Record.Key w.mid w.high) (only_key _ _ _ _ m) (λ p. (key_words w m p.0, p.1)) (λ g o. (g.low_is, o))
        (ap (λ (b : Bool). cond b (pass_of w.mid w.high at) None) (sym d)) h

    -- and where none is
    pub no_key : key_due rest ≡ false → w.mark ≡ mark "k" "y" → TurnIs tape store index rest at depth None
    unfolding turn_of
    no_key d m =
        no
        (λ s a.
        let z : s ≡ Record.Key w.mid w.high = sym (record_only tape store index s a) ∙ ap only_record (sym e) ∙ only_key _ _ _ _ m in
        ap turn z ∙ ap (λ (b : Bool). cond b (pass_of w.mid w.high at) None) d)

    -- nothing but a key stands where no value is due
    pub not_due : value_due rest ≡ false → (w.mark ≡ mark "k" "y" → ⊥) → TurnIs tape store index rest at depth None
    unfolding turn_of mark_of
    not_due d m = no (λ s a. ap (λ (b : Bool). turn_of s b (key_due rest) at depth) d ∙ idle s (λ q. m ((has s a).mark_is ∙ q)))
      where
        idle : (s : Record) → (mark_of s ≡ mark "k" "y" → ⊥) → turn_of s false (key_due rest) at depth ≡ None
        idle Record.Null n = refl
        idle (Record.Bool b) n = refl
        idle (Record.Number x) n = refl
        idle (Record.Str size start) n = refl
        idle (Record.Key size start) n = absurd (n refl)
        idle (Record.Bin size start) n = refl
        idle (Record.Time t) n = refl
        idle (Record.Array count end) n = refl
        idle (Record.Object count end) n = refl

    module _ (d : value_due rest ≡ true) where
      turned : (r : Record) {t : Option Turn} → t ≡ turn_of r true (key_due rest) at depth → t ≡ turn r
      turned r q = q ∙ ap (λ (b : Bool). turn_of r b (key_due rest) at depth) (sym d)

      pub text_turn : {u : Option Turn} → w.mark ≡ mark "s" "t" → Tested Text (pass_of w.mid w.high at) u → TurnIs tape store index rest at depth u
      unfolding turn_of leaf_of low_of
      text_turn m h =
          tested (Record.Str w.mid w.high) (only_text _ _ _ _ m) (λ p. (text_words w m p.0, p.1)) (λ g o. (g.low_is, o))
          (turned (Record.Str w.mid w.high) refl) h

      pub number_turn : {u : Option Turn} → w.mark ≡ mark "n" "b" → Tested ((w.low ≤ 1) × GoodFinite w.high (to_z w32 w.mid)) (Some (Turn.Pass at)) u
          → TurnIs tape store index rest at depth u
      unfolding turn_of leaf_of low_of
      number_turn m h =
          let r = Record.Number (Finite (eqb w.low 1) w.high (to_z w32 w.mid)) in
          tested r (only_finite _ _ _ _ m) (λ p. (finite_words w m p.0 loads.mid_small, p.1))
          (λ g o. (omega (arith, g.low_is, flag_small (eqb w.low 1)), o)) (turned r refl) h

      pub array_turn : {u : Option Turn} → w.mark ≡ mark "a" "r" → Tested Container (open_of w.high (none + 2 * w.mid) depth) u
          → TurnIs tape store index rest at depth u
      unfolding turn_of low_of
      array_turn m h =
          tested (Record.Array w.mid w.high) (only_array _ _ _ _ m) (λ p. (array_words w m p.0, p.1)) (λ g o. (g.low_is, o))
          (turned (Record.Array w.mid w.high) refl) h

      pub object_turn : {u : Option Turn} → w.mark ≡ mark "o" "b" → Tested Container (open_of w.high (none + 4 * w.mid + 1) depth) u
          → TurnIs tape store index rest at depth u
      unfolding turn_of low_of
      object_turn m h =
          tested (Record.Object w.mid w.high) (only_object _ _ _ _ m) (λ p. (object_words w m p.0, p.1)) (λ g o. (g.low_is, o))
          (turned (Record.Object w.mid w.high) refl) h

      -- any other value
      pub leaf_turn : {u : Option Turn} → (w.mark ≡ mark "k" "y" → ⊥) → (w.mark ≡ mark "a" "r" → ⊥) → (w.mark ≡ mark "o" "b" → ⊥)
          → LeafIs tape store index at u → TurnIs tape store index rest at depth u
      unfolding turn_of mark_of
      leaf_turn {u} ky ar ob (none_there g) = no (λ s a. absurd (g s a))
      leaf_turn {u} ky ar ob (leaf r a f) =
          by_leaf r a (λ q. ky ((has r a).mark_is ∙ q)) (λ q. ar ((has r a).mark_is ∙ q)) (λ q. ob ((has r a).mark_is ∙ q)) f
        where
          by_leaf : (r : Record) → RecordAt tape store index r → (mark_of r ≡ mark "k" "y" → ⊥) → (mark_of r ≡ mark "a" "r" → ⊥)
              → (mark_of r ≡ mark "o" "b" → ⊥) → u ≡ leaf_of r at → TurnIs tape store index rest at depth u
          by_leaf Record.Null a ky ar ob f = stands Record.Null a (turned Record.Null f)
          by_leaf (Record.Bool b) a ky ar ob f = stands (Record.Bool b) a (turned (Record.Bool b) f)
          by_leaf (Record.Number n) a ky ar ob f = stands (Record.Number n) a (turned (Record.Number n) f)
          by_leaf (Record.Str size start) a ky ar ob f = stands (Record.Str size start) a (turned (Record.Str size start) f)
          by_leaf (Record.Key size start) a ky ar ob f = absurd (ky refl)
          by_leaf (Record.Bin size start) a ky ar ob f = stands (Record.Bin size start) a (turned (Record.Bin size start) f)
          by_leaf (Record.Time t) a ky ar ob f = stands (Record.Time t) a (turned (Record.Time t) f)
          by_leaf (Record.Array count end) a ky ar ob f = absurd (ar refl)
          by_leaf (Record.Object count end) a ky ar ob f = absurd (ob refl)

-- ---- a turn that was taken

pub record Stood (tape store : List ℕ) (index rest at depth : ℕ) (t : Option Turn) : Type 0 where
  pub r : Record
  pub there : RecordAt tape store index r
  pub turned : t ≡ turn_of r (value_due rest) (key_due rest) at depth

module _ {tape store : List ℕ} {index rest at depth : ℕ} where
  took : {t : Option Turn} {u : Turn} → TurnIs tape store index rest at depth t → t ≡ Some u → Stood tape store index rest at depth (Some u)
  took (stands r a f) e = record { r = r; there = a; turned = sym e ∙ f }
  took (no n) e = let z : ◌≡◌ {A = ℕ} 0 1 = cc in absurd (omega arith)

  pub passed : {t : Option Turn} {u : Turn} {a : ℕ} → TurnIs tape store index rest at depth t → t ≡ Some u → u ≡ Turn.Pass a
      → Stood tape store index rest at depth (Some (Turn.Pass a))
  passed x e f = took x (e ∙ ap Some f)

  pub opened : {t : Option Turn} {u : Turn} {a k : ℕ} → TurnIs tape store index rest at depth t → t ≡ Some u → u ≡ Turn.Open a k
      → Stood tape store index rest at depth (Some (Turn.Open a k))
  opened x e f = took x (e ∙ ap Some f)
