-- Where the grammar says that bytes stand left of a spot, the machine stands at that spot after them; so 7 is given. Assumes nothing.
use Prim.Native.Nat.{ℕ, zero, suc}
use mathlib.Core.Path.{◌≡◌, refl, sym, ap, ◌∙◌, subst}
use mathlib.Core.Bool.{true}
use mathlib.Core.List.{List, [], ◌∷◌, ◌++◌, append_assoc}
use native.Mathlib.Omega.{arith}
use lib.ListN.{length}
use Rattle.meaning.specs.Letters.{ch}
use Rattle.meaning.specs.Limits.{depth_limit}
use Rattle.meaning.specs.Meaning.{Meanings, Members}
use Rattle.meaning.specs.declared.Refusal.TheVariants.{TooDeep}
use Rattle.grammar.specs.Comments.{Ws}
use Rattle.grammar.specs.Strings.{StringPart}
use Rattle.grammar.specs.Values.{Inside, elements, members, Item}
use Rattle.machine.specs.Machine.{Use, as_value, as_key, Got, Base, want, want_key, want_string, got, base, Frame, inside, pair, Conf, at, fail, step, read}
use Rattle.machine.specs.Machine.{reading, No}
use Rattle.grammar.specs.Refused.{Spot, value, part, among, Left, Opening}
use Rattle.machine.proofs.Runs.{EndsItem, PartEnds, adv}
use Rattle.machine.proofs.Layouts.{adv_join, stepped, layout_run}
use Rattle.machine.proofs.Complete.{StartsString, string_part_run, got_of, value_run, Adds, comma_after_lem, key_run, after_layout, part_after_layout}
use Rattle.machine.proofs.Complete.{one_more}
use Rattle.machine.proofs.Whole.{absorbing}
use Rattle.machine.proofs.Refusals.Refuses.{init, adv_length}

-- after the bytes l the machine stands at c
abbrev Leads : List ℕ → Conf → Type 0
Leads l c = (r : List ℕ) → read 0 init (l ++ r) ≡ read (adv 0 l) c r

abbrev pub Stood : ℕ → Spot → List ℕ → Type 0
Stood d value l = (k : List Frame) × Leads l (at (base want) d k)
Stood d part l = (z : Use) × (u : List ℕ) × (k : List Frame) × Leads l (at (base (want_string z u)) d k)
Stood d (among (elements x)) l = (k : List Frame) × Leads l (at (base want) d (inside (elements x) ∷ k))
Stood d (among (members x)) l = (k : List Frame) × Leads l (at (base want_key) d (inside (members x) ∷ k))

-- the same where b comes next
abbrev LeadsBy : List ℕ → Conf → ℕ → Type 0
LeadsBy l c b = (r : List ℕ) → read 0 init (l ++ (b ∷ r)) ≡ read (adv 0 l) c (b ∷ r)

-- that byte, then layout
then_layout : (l : List ℕ) (c : Conf) (b : ℕ) (w : List ℕ) (s : Base) (d : ℕ) (k : List Frame) → LeadsBy l c b → Ws w → ((p : ℕ) → step p c b ≡ at (base s) d k)
    → Leads (l ++ (b ∷ w)) (at (base s) d k)
then_layout l c b w s d k h x e r =
    ap (read 0 init) (append_assoc l (b ∷ w) r) ∙ h (w ++ r)
    ∙ stepped (adv 0 l) c b (w ++ r) (at (base s) d k) (e (adv 0 l)) (layout_run x s (suc (adv 0 l)) d k r)
    ∙ ap (λ (p : ℕ). read p (at (base s) d k) r) (sym (adv_join 0 l (b ∷ w)))

-- an item from c to what is got, layout behind it, and the byte b
behind : (l a v : List ℕ) (b : ℕ) (c : Conf) (g : Got) (d : ℕ) (k : List Frame) → Leads l c
    → ((p : ℕ) (r : List ℕ) → read p c (a ++ (v ++ (b ∷ r))) ≡ read (adv p a) (at (base (got g)) d k) (v ++ (b ∷ r))) → Ws v
    → LeadsBy (l ++ (a ++ v)) (at (base (got g)) d k) b
behind l a v b c g d k h f x r =
    ap (read 0 init) (append_assoc l (a ++ v) (b ∷ r) ∙ ap (λ (y : List ℕ). l ++ y) (append_assoc a v (b ∷ r))) ∙ h (a ++ (v ++ (b ∷ r))) ∙ f (adv 0 l) r
    ∙ layout_run x (got g) (adv (adv 0 l) a) d k (b ∷ r)
    ∙ ap (λ (p : ℕ). read p (at (base (got g)) d k) (b ∷ r)) (sym (adv_join 0 l (a ++ v) ∙ adv_join (adv 0 l) a v))

-- all of it
item_then : (l a v w : List ℕ) (b : ℕ) (c : Conf) (g : Got) (s : Base) (d : ℕ) (k k' : List Frame) → Leads l c
    → ((p : ℕ) (r : List ℕ) → read p c (a ++ (v ++ (b ∷ r))) ≡ read (adv p a) (at (base (got g)) d k) (v ++ (b ∷ r))) → Ws v → Ws w
    → ((p : ℕ) → step p (at (base (got g)) d k) b ≡ at (base s) d k') → Leads (l ++ (a ++ (v ++ (b ∷ w)))) (at (base s) d k')
item_then l a v w b c g s d k k' h f x y e =
    subst (λ (z : List ℕ). Leads z (at (base s) d k')) (respelt l a v (b ∷ w))
    (then_layout (l ++ (a ++ v)) (at (base (got g)) d k) b w s d k' (behind l a v b c g d k h f x) y e)
  where
    respelt : (l a v e : List ℕ) → (l ++ (a ++ v)) ++ e ≡ l ++ (a ++ (v ++ e))
    respelt l a v e = simp append_assoc

part_then : (z : Use) {a u : List ℕ} → StringPart true a u → (s : Base) (v : List ℕ) → StartsString z s v → (l y w : List ℕ) (d : ℕ) (k : List Frame)
    → Leads l (at (base s) d k) → Ws y → Ws w → Leads (l ++ (a ++ (y ++ (ch "+" ∷ w)))) (at (base (want_string z (v ++ u))) d k)
part_then z {a} {u} x s v i l y w d k h m n =
    item_then l a y w (ch "+") (at (base s) d k) (Got.string z (v ++ u)) (want_string z (v ++ u)) d k k h
    (λ p r. string_part_run z x s v i p d k (y ++ (ch "+" ∷ r)) (part_after_layout m _ (one_more r PartEnds.plus (λ e. omega arith)))) m n (λ p. refl)

-- an item and a comma
comma_then : {d : ℕ} {x y : Inside} {a : List ℕ} → Item true d x a y → (l v w : List ℕ) → Stood d (among x) l → Ws v → Ws w
    → Stood d (among y) (l ++ (a ++ (v ++ (ch "," ∷ w))))
comma_then (Item.element {d = d} {x = x} {a = a} {m = m} t) l v w (k, h) i j = (
  k,
  item_then l a v w (ch ",") (at (base want) d (inside (elements x) ∷ k)) (got_of m) want d (inside (elements x) ∷ k)
      (inside (elements (Meanings.more x m)) ∷ k) h
      (λ p r. value_run t p (inside (elements x) ∷ k) (v ++ (ch "," ∷ r)) (after_layout i (ch "," ∷ r) (one_more r EndsItem.comma (λ e. omega arith)))) i j
      (λ p. comma_after_lem Adds.element p d k),
)
comma_then (Item.member {d = d} {x = x} {c = c} {u = u} {v = y} {w = z} {a = a} {m = m} q e f t) l v w (k, h) i j = (
  k,
  item_then l (c ++ (y ++ (ch ":" ∷ (z ++ a)))) v w (ch ",") (at (base want_key) d (inside (members x) ∷ k)) (got_of m) want_key d (pair x u ∷ k)
      (inside (members (Members.member x u m)) ∷ k) h
      (λ p r. simp (append_assoc, adv_join) (key_run q e x p d k (z ++ (a ++ (v ++ (ch "," ∷ r))))
      ∙ layout_run f want (suc (adv (adv p c) y)) d (pair x u ∷ k) (a ++ (v ++ (ch "," ∷ r)))
      ∙ value_run t (adv (suc (adv (adv p c) y)) z) (pair x u ∷ k) (v ++ (ch "," ∷ r))
      (after_layout i (ch "," ∷ r) (one_more r EndsItem.comma (λ e. omega arith))))) i j (λ p. comma_after_lem Adds.member p d k),
)

pub left_stood : {d : ℕ} {s : Spot} {l : List ℕ} → Left d s l → Stood d s l
left_stood (Left.text {w = w} x) = ([], λ r. layout_run x want 0 depth_limit [] r)
left_stood (Left.array {d = d} {l = l} {w = w} h x) =
    let k = left_stood h in
    (k.0, then_layout l (at (base want) (suc d) k.0) (ch "[") w want d (inside (elements Meanings.none) ∷ k.0) (λ r. k.1 (ch "[" ∷ r)) x (λ p. refl))
left_stood (Left.object {d = d} {l = l} {w = w} h x) =
    let k = left_stood h in
    (k.0, then_layout l (at (base want) (suc d) k.0) (ch "{") w want_key d (inside (members Members.bare) ∷ k.0) (λ r. k.1 (ch "{" ∷ r)) x (λ p. refl))
left_stood (Left.element {x = x} h) = let k = left_stood h in (inside (elements x) ∷ k.0, k.1)
left_stood (Left.comma {l = l} {v = v} {w = w} h i x y) = comma_then i l v w (left_stood h) x y
left_stood (Left.colon {d = d} {x = m} {l = l} {c = c} {u = u} {v = v} {w = w} h i x y) = let k = left_stood h in (pair m u ∷ k.0, colon_leads k.0 k.1)
  where
    colon_leads : (k : List Frame) → Leads l (at (base want_key) d (inside (members m) ∷ k))
        → Leads (l ++ (c ++ (v ++ (ch ":" ∷ w)))) (at (base want) d (pair m u ∷ k))
    colon_leads k g r =
        simp (append_assoc, adv_join) (g (c ++ (v ++ (ch ":" ∷ (w ++ r)))) ∙ key_run i x m (adv 0 l) d k (w ++ r)
        ∙ layout_run y want (suc (adv (adv (adv 0 l) c) v)) d (pair m u ∷ k) r)
left_stood (Left.plus {d = d} {s = s} {l = l} {a = a} {u = u} {v = v} {w = w} h i x y) = go s (left_stood h)
  where
    go : (s : Spot) → Stood d s l → Stood d part (l ++ (a ++ (v ++ (ch "+" ∷ w))))
    go value (k, g) = (as_value, u, k, part_then as_value i want [] StartsString.first_value l v w d k g x y)
    go part (z, t, k, g) = (z, t ++ u, k, part_then z i (want_string z t) t StartsString.further l v w d k g x y)
    go (among (elements m)) (k, g) =
        (as_value, u, inside (elements m) ∷ k, part_then as_value i want [] StartsString.first_value l v w d (inside (elements m) ∷ k) g x y)
    go (among (members m)) (k, g) =
        (as_key, u, inside (members m) ∷ k, part_then as_key i want_key [] StartsString.first_key l v w d (inside (members m) ∷ k) g x y)

-- 7: the bracket that opens one too many
pub depth_given : {b : ℕ} {l : List ℕ} (r : List ℕ) → Left zero value l → Opening b → reading (l ++ (b ∷ r)) ≡ No (TooDeep (length l))
unfolding reading read
depth_given {b} {l} r h o =
    let k = left_stood h in
    k.1 (b ∷ r) ∙ ap (λ (c : Conf). read (suc (adv 0 l)) c r) (deep o (adv 0 l) k.0)
    ∙ absorbing (suc (adv 0 l)) (TooDeep (adv 0 l)) r ∙ ap (λ (p : ℕ). No (TooDeep p)) (adv_length l 0 ∙ omega arith)
  where
    deep : {b : ℕ} → Opening b → (p : ℕ) (k : List Frame) → step p (at (base want) zero k) b ≡ fail (TooDeep p)
    deep Opening.bracket p k = refl
    deep Opening.brace p k = refl
