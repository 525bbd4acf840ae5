-- A text of the bare grammar, its checks left out, is never refused with 3. Assumes nothing.
use Prim.Native.Nat.{ℕ, zero, suc}
use mathlib.Core.Path.{◌≡◌, refl, sym, ap, ◌∙◌}
use mathlib.Core.Bool.{true, false}
use mathlib.Core.Option.{some}
use mathlib.Core.List.{List, [], ◌∷◌, ◌++◌, append_assoc, append-nil}
use native.Mathlib.Omega.{arith}
use Rattle.meaning.specs.Paper.{number_of}
use Rattle.meaning.specs.Letters.{letters, ch}
use Rattle.meaning.specs.Limits.{depth_limit}
use Rattle.meaning.specs.Meaning.{Meaning, Meanings, Members}
use Rattle.meaning.specs.declared.Refusal.{Refusal}
use Rattle.meaning.specs.declared.Refusal.TheVariants.{NotGrammar, TooDeep}
use Rattle.grammar.specs.Comments.{Ws, Last}
use Rattle.grammar.specs.Strings.{StringPart, Concat, String}
use Rattle.grammar.specs.Keys.{Key}
use Rattle.grammar.specs.Values.{Inside, elements, members, Closes, Value, Rest, After, Item, Loose}
use Rattle.machine.specs.Scan.{Out, takes, stops, breaks, over}
use Rattle.machine.specs.Machine
use Rattle.machine.specs.Machine.{Use, as_value, as_key, Got, Base, want, want_key, want_string, got, base, item, Frame, inside, pair, at, fail, step, read}
use Rattle.machine.specs.Machine.{reading, Verdict, Ok, No, class_of, lift, scan, as_value_of, wanted, shut, bare_of, on_out}
use Rattle.machine.specs.Numeric
use Rattle.machine.specs.Strings
use Rattle.machine.proofs.Runs.{EndsItem, PartEnds, NoDigit, HaltTo, GoesTo, adv}
use Rattle.machine.proofs.Layouts.{adv_join, stepped, layout_run, line_run}
use Rattle.machine.proofs.Complete.{NoDigitFirst, Follows, widen, begun, StartsString, starts_string, Quoted, part_begins, binary_run, lead_starts}
use Rattle.machine.proofs.Complete.{word_run, key_run, closes_end, after_layout, part_after_layout, one_more, last_follows}
use Rattle.machine.proofs.Numeric as N
use Rattle.machine.proofs.Whole.{absorbing}
use Rattle.machine.proofs.Refusals.Reason.{Other}
use Rattle.machine.proofs.Refusals.Items.{Ended, number_ends, time_ends, part_ends}

-- no 3
abbrev Mild : Verdict → Type 0
Mild v = (q : ℕ) → v ≡ No (NotGrammar q) → ⊥

mild_by : {v w : Verdict} → v ≡ w → Mild w → Mild v
mild_by e h q f = h q (sym e ∙ f)

mild_no : {r : Refusal} → Other r → Mild (No r)
mild_no {r} h q e = let f : r ≡ NotGrammar q = cc in h (ap number_of f)

mild_fail : (p : ℕ) (r : Refusal) (t : List ℕ) → Other r → Mild (read p (fail r) t)
mild_fail p r t h = mild_by (absorbing p r t) (mild_no h)

-- ---- an item

module _ {S M : Type 0} (run : ℕ → S → ℕ → Out S M) (f : S → Machine.Item) (g : M → Got)
    (same : (p : ℕ) (s : S) (b : ℕ) → scan p (f s) b ≡ lift f g (run p s b)) where
  out_byte : (p d : ℕ) (k : List Frame) (b : ℕ) (r : List ℕ) (o : Out S M) → Ended o → ((v : M) → Mild (read p (at (base (got (g v))) d k) (b ∷ r)))
      → Mild (read (suc p) (on_out p d k b (lift f g o)) r)
  unfolding read
  out_byte p d k b r (takes s) e h = absurd e
  out_byte p d k b r (stops v) e h = h v
  out_byte p d k b r (breaks x) e h = mild_fail (suc p) x r e

  out_end : (p d : ℕ) (k : List Frame) (o : Out S M) → Ended o → ((v : M) → Mild (read p (at (base (got (g v))) d k) []))
      → Mild (Machine.end_out p k (lift f g o))
  unfolding read
  out_end p d k (takes s) e h = absurd e
  out_end p d k (stops v) e h = h v
  out_end p d k (breaks x) e h = mild_no e

  at_byte : (p : ℕ) (s : S) (b d : ℕ) (k : List Frame) (r : List ℕ) → Ended (run p s b) → ((v : M) → Mild (read p (at (base (got (g v))) d k) (b ∷ r)))
      → Mild (read p (at (item (f s)) d k) (b ∷ r))
  unfolding read
  at_byte p s b d k r e h = mild_by (ap (λ (o : Out Machine.Item Got). read (suc p) (on_out p d k b o) r) (same p s b)) (out_byte p d k b r (run p s b) e h)

  at_end : (p : ℕ) (s : S) (d : ℕ) (k : List Frame) → Ended (run p s over) → ((v : M) → Mild (read p (at (base (got (g v))) d k) []))
      → Mild (read p (at (item (f s)) d k) [])
  unfolding read
  at_end p s d k e h = mild_by (ap (Machine.end_out p k) (same p s over)) (out_end p d k (run p s over) e h)

  taken : (p : ℕ) (s s' : S) (b d : ℕ) (k : List Frame) (r : List ℕ) → run p s b ≡ takes s'
      → read p (at (item (f s)) d k) (b ∷ r) ≡ read (suc p) (at (item (f s')) d k) r
  unfolding read
  taken p s s' b d k r e = ap (λ (o : Out Machine.Item Got). read (suc p) (on_out p d k b o) r) (same p s b ∙ ap (lift f g) e)

  after_space : (p : ℕ) (s : S) (d : ℕ) (k : List Frame) (r : List ℕ) → ((q c : ℕ) → NoDigit c → Ended (run q s c)) → NoDigitFirst r
      → ((v : M) → Mild (read p (at (base (got (g v))) d k) r)) → Mild (read p (at (item (f s)) d k) r)
  after_space p s d k [] e n h = at_end p s d k (e p over (NoDigit.past (omega arith))) h
  after_space p s d k (c ∷ r) e n h = at_byte p s c d k r (e p c n) h

  spaced_got : (p d : ℕ) (k : List Frame) (v : M) (r : List ℕ) → read p (at (base (got (g v))) d k) (ch " " ∷ r) ≡ read (suc p) (at (base (got (g v))) d k) r
  unfolding read
  spaced_got p d k v r = refl

  halted : {p b : ℕ} {s : S} → HaltTo run Ended p s b → (d : ℕ) (k : List Frame) (r : List ℕ) → (b ≡ ch " " → NoDigitFirst r)
      → ((v : M) → Mild (read p (at (base (got (g v))) d k) (b ∷ r))) → Mild (read p (at (item (f s)) d k) (b ∷ r))
  halted {p} {b} {s} (HaltTo.here e) d k r n h = at_byte p s b d k r e h
  halted {p} {b} {s} (HaltTo.spaced {s' = s'} e j) d k r n h =
      mild_by (taken p s s' (ch " ") d k r e) (after_space (suc p) s' d k r j (n refl) (λ v. mild_by (sym (spaced_got p d k v r)) (h v)))

  halted_end : {p b : ℕ} {s : S} → HaltTo run Ended p s b → b ≡ over → (d : ℕ) (k : List Frame) → ((v : M) → Mild (read p (at (base (got (g v))) d k) []))
      → Mild (read p (at (item (f s)) d k) [])
  halted_end {p} {b} {s} (HaltTo.here e) w d k h = at_end p s d k (rw (← w) e) h
  halted_end (HaltTo.spaced e j) w d k h = absurd (omega arith)

  item_mild : {F : ℕ → Type 0} {p : ℕ} {s : S} {a : List ℕ} → GoesTo run Ended F p s a → (d : ℕ) (k : List Frame) (r : List ℕ) → Follows F r
      → ((v : M) → Mild (read (adv p a) (at (base (got (g v))) d k) r)) → Mild (read p (at (item (f s)) d k) (a ++ r))
  item_mild (GoesTo.ends e) d k [] (Follows.nothing x) h = halted_end (e over x) refl d k h
  item_mild (GoesTo.ends e) d k (b ∷ r) (Follows.byte x n) h = halted (e b x) d k r n h
  item_mild (GoesTo.goes {p = p} {c = c} {s = s} {s' = s'} {a = a} x e) d k r w h = mild_by (taken p s s' c d k (a ++ r) e) (item_mild x d k r w h)

-- ---- what the machine has got may be a value

abbrev IsValue : Got → Type 0
IsValue g = (m : Meaning) × (as_value_of g ≡ some m)

-- after the bytes a, where the machine has got g, no 3
abbrev Then : ℕ → List ℕ → ℕ → List Frame → List ℕ → Got → Type 0
Then p a d k r g = Mild (read (adv p a) (at (base (got g)) d k) r)

abbrev ValueMild : List ℕ → Type 0
ValueMild a =
    (p d : ℕ) (k : List Frame) (r : List ℕ) → Follows EndsItem r → ((g : Got) → IsValue g → Then p a d k r g) → Mild (read p (at (base want) d k) (a ++ r))

-- a number or a time value
numeric_mild : {a : List ℕ} → N.Begins a → (p d : ℕ) (k : List Frame) (r : List ℕ) → GoesTo Numeric.scan Ended EndsItem p Numeric.begin a → Follows EndsItem r
    → ((m : Meaning) → Then p a d k r (Got.value m)) → Mild (read p (at (base want) d k) (a ++ r))
numeric_mild (N.Begins.begins {b = b} {a = t} y) p d k r w h c =
    mild_by (begun p d k want b (t ++ r) _ (lead_starts y p d k)) (item_mild Numeric.scan Machine.numeric Got.value (λ p s b. refl) w d k r h c)

-- ---- strings

part_mild : (z : Use) {a u : List ℕ} → StringPart false a u → (s : Base) (v : List ℕ) → StartsString z s v → (p d : ℕ) (k : List Frame) (r : List ℕ)
    → Follows PartEnds r → ((w : List ℕ) → Then p a d k r (Got.string z w)) → Mild (read p (at (base s) d k) (a ++ r))
part_mild z {a} {u} x s v y p d k r h c = go a (part_begins x) (part_ends x p) c
  where
    go : (l : List ℕ) → Quoted l → GoesTo Strings.scan Ended PartEnds p Strings.begin l → ((w : List ℕ) → Then p l d k r (Got.string z w))
        → Mild (read p (at (base s) d k) (l ++ r))
    go l (Quoted.quote {b = b} {a = t} e) w c =
        mild_by (begun p d k s b (t ++ r) _ (starts_string y p d k b e))
        (item_mild Strings.scan (Machine.string_part z v) (λ q. Got.string z (v ++ q)) (λ p s b. refl) w d k r h (λ q. c (v ++ q)))

string_mild : (z : Use) {a u : List ℕ} → String false a u → (s : Base) (v : List ℕ) → StartsString z s v → (p d : ℕ) (k : List Frame) (r : List ℕ)
    → Follows PartEnds r → ((w : List ℕ) → Then p a d k r (Got.string z w)) → Mild (read p (at (base s) d k) (a ++ r))
string_mild z (Concat.part x) s v b p d k r h c = part_mild z x s v b p d k r h c
string_mild z (Concat.plus {a = a} {v = y} {w = x} {b = e} m w1 w2 rest) s v b p d k r h c =
    simp append_assoc
    (part_mild z m s v b p d k (y ++ (ch "+" ∷ (x ++ (e ++ r)))) (part_after_layout w1 _ (one_more _ PartEnds.plus (λ e. omega arith)))
    (λ u. mild_by (layout_run w1 (got (Got.string z u)) (adv p a) d k (ch "+" ∷ (x ++ (e ++ r)))
    ∙ stepped _ _ _ _ _ refl (layout_run w2 (want_string z u) (suc (adv (adv p a) y)) d k (e ++ r)))
    (string_mild z rest (want_string z u) u StartsString.further (adv (suc (adv (adv p a) y)) x) d k r h (λ w. simp adv_join at (c w)))))

-- ---- brackets, commas and colons

-- a container of the same kind
data Alike : Inside → Inside → Type 0 where
  arrays : {x y : Meanings} → Alike (elements x) (elements y)
  objects : {x y : Members} → Alike (members x) (members y)

-- the frame that waits for a value of such a container
data Holds : Inside → Frame → Type 0 where
  element : {x y : Meanings} → Holds (elements x) (inside (elements y))
  member : {x y : Members} {u : List ℕ} → Holds (members x) (pair y u)

close_now : {x y : Inside} {b : ℕ} → Closes x b → Alike x y → (p d : ℕ) (k : List Frame)
    → step p (at (base (wanted y)) d (inside y ∷ k)) b ≡ at (base (got (Got.value (shut y)))) (suc d) k
close_now Closes.bracket Alike.arrays p d k = refl
close_now Closes.brace Alike.objects p d k = refl

close_after_lem : (g : Got) {x : Inside} {f : Frame} {b : ℕ} → Closes x b → Holds x f → IsValue g → (p d : ℕ) (k : List Frame)
    → (m : Meaning) × (step p (at (base (got g)) d (f ∷ k)) b ≡ at (base (got (Got.value m))) (suc d) k)
close_after_lem g Closes.bracket (Holds.element {y = y}) (m, e) p d k = (Meaning.array (Meanings.more y m), rw e)
close_after_lem g Closes.brace (Holds.member {y = y} {u = u}) (m, e) p d k = (Meaning.object (Members.member y u m), rw e)

comma_after_lem : (g : Got) {x : Inside} {f : Frame} → Holds x f → IsValue g → (p d : ℕ) (k : List Frame)
    → (y : Inside) × Alike x y × (step p (at (base (got g)) d (f ∷ k)) (ch ",") ≡ at (base (wanted y)) d (inside y ∷ k))
comma_after_lem g (Holds.element {y = y}) (m, e) p d k = (elements (Meanings.more y m), Alike.arrays, rw e)
comma_after_lem g (Holds.member {y = y} {u = u}) (m, e) p d k = (members (Members.member y u m), Alike.objects, rw e)

-- ---- the productions

abbrev RestMild : Inside → List ℕ → Type 0
RestMild x a =
    (y : Inside) → Alike x y → (p d : ℕ) (k : List Frame) (r : List ℕ) → ((m : Meaning) → Then p a (suc d) k r (Got.value m))
    → Mild (read p (at (base (wanted y)) d (inside y ∷ k)) (a ++ r))

-- behind a value in the frame f
abbrev BehindMild : Inside → List ℕ → Type 0
BehindMild x a =
    (f : Frame) (g : Got) → Holds x f → IsValue g → (p d : ℕ) (k : List Frame) (r : List ℕ) → ((m : Meaning) → Then p a (suc d) k r (Got.value m))
    → Mild (read p (at (base (got g)) d (f ∷ k)) (a ++ r))

abbrev AfterMild : Inside → List ℕ → Type 0
AfterMild x a = ((r : List ℕ) → Follows EndsItem (a ++ r)) × BehindMild x a

abbrev ItemMild : Inside → List ℕ → Inside → Type 0
ItemMild x a z =
    (y : Inside) → Alike x y → (p d : ℕ) (k : List Frame) (r : List ℕ) → Follows EndsItem r
    → ((f : Frame) (g : Got) → Holds z f → IsValue g → Then p a d (f ∷ k) r g) → Mild (read p (at (base (wanted y)) d (inside y ∷ k)) (a ++ r))

close_mild : (b : ℕ) (x : Inside) (w : List ℕ) → Ws w → Closes x b → RestMild x (w ++ (b ∷ []))
close_mild b x w l e y s p d k r c =
    simp append_assoc (mild_by (layout_run l (wanted y) p d (inside y ∷ k) (b ∷ r) ∙ stepped _ _ _ _ _ (close_now e s (adv p w) d k) refl)
    (simp adv_join at (c (shut y))))

rest_item_mild : (x z : Inside) (w a b : List ℕ) → Ws w → ItemMild x a z → AfterMild z b → RestMild x (w ++ (a ++ b))
rest_item_mild x z w a b l i t y s p d k r c =
    simp append_assoc
    (mild_by (layout_run l (wanted y) p d (inside y ∷ k) (a ++ (b ++ r)))
    (i y s (adv p w) d k (b ++ r) (t.0 r) (λ f g h v. t.1 f g h v (adv (adv p w) a) d k r (λ m. simp adv_join at (c m)))))

end_mild : (b : ℕ) (x : Inside) (w : List ℕ) → Ws w → Closes x b → AfterMild x (w ++ (b ∷ []))
end_mild b x w l e = (
  (λ r. rw append_assoc (after_layout l (b ∷ r) (one_more r (closes_end e).0 (closes_end e).1))),
  λ f g h v p d k r c. (let s = close_after_lem g e h v (adv p w) d k in simp append_assoc
      (mild_by (layout_run l (got g) p d (f ∷ k) (b ∷ r) ∙ stepped _ _ _ _ _ s.1 refl) (simp adv_join at (c s.0)))),
)

comma_mild : (x : Inside) (w a : List ℕ) → Ws w → RestMild x a → AfterMild x (w ++ (ch "," ∷ a))
comma_mild x w a l t = (
  (λ r. rw append_assoc (after_layout l (ch "," ∷ (a ++ r)) (one_more (a ++ r) EndsItem.comma (λ e. omega arith)))),
  λ f g h v p d k r c. (let s = comma_after_lem g h v (adv p w) d k in simp append_assoc
      (mild_by (layout_run l (got g) p d (f ∷ k) (ch "," ∷ (a ++ r)) ∙ stepped _ _ _ _ _ s.2 refl)
      (t s.0 s.1 (suc (adv p w)) d k r (λ m. simp adv_join at (c m))))),
)

element_mild : (x z : Meanings) (a : List ℕ) → ValueMild a → ItemMild (elements x) a (elements z)
element_mild x z a v y Alike.arrays p d k r h c = v p d (inside y ∷ k) r h (λ g e. c (inside y) g Holds.element e)

-- a key, and the colon after it
key_mild : {c u : List ℕ} → Key false c u → {v : List ℕ} → Ws v → (x : Members) (p d : ℕ) (k : List Frame) (r : List ℕ)
    → ((u : List ℕ) → Mild (read (suc (adv (adv p c) v)) (at (base want) d (pair x u ∷ k)) r))
    → Mild (read p (at (base want_key) d (inside (members x) ∷ k)) (c ++ (v ++ (ch ":" ∷ r))))
key_mild {c} (Key.string y) {v} w x p d k r h =
    string_mild as_key y want_key [] StartsString.first_key p d (inside (members x) ∷ k) (v ++ (ch ":" ∷ r))
    (part_after_layout w _ (one_more r PartEnds.colon (λ e. omega arith)))
    (λ u. mild_by (layout_run w (got (Got.string as_key u)) (adv p c) d (inside (members x) ∷ k) (ch ":" ∷ r) ∙ stepped _ _ _ _ _ refl refl) (h u))
key_mild {c} (Key.identifier y) w x p d k r h = mild_by (key_run (Key.identifier y) w x p d k r) (h c)

member_mild : (x z : Members) (c u v w a : List ℕ) → Key false c u → Ws v → Ws w → ValueMild a
    → ItemMild (members x) (c ++ (v ++ (ch ":" ∷ (w ++ a)))) (members z)
member_mild x z c u v w a y l j t (members b) Alike.objects p d k r h e =
    simp append_assoc
    (key_mild y l b p d k (w ++ (a ++ r))
    (λ u. mild_by (layout_run j want (suc (adv (adv p c) v)) d (pair b u ∷ k) (a ++ r))
    (t (adv (suc (adv (adv p c) v)) w) d (pair b u ∷ k) r h (λ g i. simp adv_join at (e (pair b u) g Holds.member i)))))
member_mild x z c u v w a y l j t (elements b) s p d k r h e = elim s [ ]

opened_mild : (c : Machine.Bracket) (b : ℕ) → class_of b ≡ Machine.open_c c → (a : List ℕ) (x : Inside) → Alike x (bare_of c) → RestMild x a → ValueMild (b ∷ a)
unfolding read
opened_mild c b e a x s t p zero k r h f =
    mild_by (stepped p (at (base want) zero k) b (a ++ r) (fail (TooDeep p)) (rw e) refl) (mild_fail (suc p) (TooDeep p) (a ++ r) (omega arith))
opened_mild c b e a x s t p (suc d) k r h f =
    mild_by (stepped p (at (base want) (suc d) k) b (a ++ r) (at (base (wanted (bare_of c))) d (inside (bare_of c) ∷ k)) (rw e) refl)
    (t (bare_of c) s (suc p) d k r (λ m. f (Got.value m) (m, refl)))

value_mild : {d : ℕ} {a : List ℕ} {m : Meaning} → Value false d a m → ValueMild a
value_mild x = elim x as (λ d a m _. ValueMild a) (λ d x a y _. RestMild x a) (λ d x a y _. AfterMild x a) (λ d x a y _. ItemMild x a y) [
  | Value.null_word ↦ λ p d k r h c. mild_by (word_run (ch "n") (letters "ull") Meaning.null (λ p d k. refl) p d k r h) (c _ (Meaning.null, refl))
  | Value.true_word ↦ λ p d k r h c. mild_by (word_run (ch "t") (letters "rue") (Meaning.bool true) (λ p d k. refl) p d k r h) (c _ (Meaning.bool true, refl))
  | Value.false_word ↦ λ p d k r h c. mild_by (word_run (ch "f") (letters "alse") (Meaning.bool false) (λ p d k. refl) p d k r h)
      (c _ (Meaning.bool false, refl))
  | Value.number y ↦ λ p d k r h c. numeric_mild (N.number_begins y) p d k r (number_ends y p) h (λ m. c (Got.value m) (m, refl))
  | Value.string y ↦ λ p d k r h c. string_mild as_value y want [] StartsString.first_value p d k r (widen (λ b e. PartEnds.ends e) h)
      (λ u. c (Got.string as_value u) (Meaning.string u, refl))
  | Value.binary {u = u} y ↦ λ p d k r h c. mild_by (binary_run y p d k r (widen (λ b e. PartEnds.ends e) h)) (c (Got.binary u) (Meaning.binary u, refl))
  | Value.time_value y ↦ λ p d k r h c. numeric_mild (N.time_begins y) p d k r (time_ends y p) h (λ m. c (Got.value m) (m, refl))
  | Value.array {a = a} y (z → ih) ↦ opened_mild Machine.square (ch "[") refl a (elements Meanings.none) Alike.arrays ih
  | Value.object {a = a} y (z → ih) ↦ opened_mild Machine.curly (ch "{") refl a (members Members.bare) Alike.objects ih
  | Rest.close {b = b} {x = x} {w = w} y c ↦ close_mild b x w y c
  | Rest.item {x = x} {y = y} {w = w} {a = a} {b = b} l (i → ih) (t → jh) ↦ rest_item_mild x y w a b l ih jh
  | After.end {b = b} {x = x} {w = w} y c ↦ end_mild b x w y c
  | After.comma {x = x} {w = w} {a = a} l (t → ih) ↦ comma_mild x w a l ih
  | Item.element {x = x} {a = a} {m = m} (v → ih) ↦ element_mild x (Meanings.more x m) a ih
  | Item.member {x = x} {c = c} {u = u} {v = v} {w = w} {a = a} {m = m} y l j (t → ih) ↦ member_mild x (Members.member x u m) c u v w a y l j ih
]

-- ---- the whole text

mild_ok : {m : Meaning} → Mild (Ok m)
mild_ok q e = let z : ◌≡◌ {A = ℕ} 0 1 = cc in omega arith

last_mild : {a : List ℕ} → Last a → (p d : ℕ) (g : Got) → IsValue g → Mild (read p (at (base (got g)) d []) a)
unfolding read
last_mild (Last.ended {a = a} w) p d g (m, e) = rw (← append-nil a) (mild_by (layout_run w (got g) p d [] [] ∙ rw e) (mild_ok {m = m}))
last_mild (Last.unended {a = a} {c = c} w l) p d g (m, e) =
    mild_by (layout_run w (got g) p d [] c ∙ rw (← append-nil c) (line_run l (got g) (adv p a) d [] [] ∙ rw e)) (mild_ok {m = m})

-- a text of the bare grammar is never refused with 3
pub never_3 : {t : List ℕ} {m : Meaning} → Loose false t m → Mild (reading t)
unfolding reading
never_3 (Loose.text {w = w} {a = a} {v = v} l x y h) =
    mild_by (layout_run l want 0 depth_limit [] (a ++ v)) (value_mild x (adv 0 w) depth_limit [] v (last_follows y)
    (λ g i. last_mild y (adv (adv 0 w) a) depth_limit g i))
