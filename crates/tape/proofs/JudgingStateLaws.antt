-- The code's numbers and the machine's states. Assumes nothing.
use mathlib.Core.Path.{◌≡◌, refl, sym, ap, ap₂, ◌∙◌, subst}
use mathlib.Core.Bool.{Bool, true, false, cond}
use mathlib.Core.List.{List, [], ◌∷◌}
use Rattle.std.proofs.Common.{Option, Some, None}
use Prim.Native.Nat.{ℕ, suc, ◌+◌, ◌-◌, ◌*◌, ◌%◌, ◌≤◌, ◌<◌}
use native.Mathlib.Omega.{arith}
use native.Mathlib.Decide.{dec_lt}
use native.Mathlib.Numerals.{add-one}
use lib.Dec.{ltb, eqb}
use lib.ListN.{length, get_or, set, length-set}
use lib.Seq.{get_or-set_same, get_or-set_other}
use borrow.Author.Tests.{eq-eqb, ne_eqb, eqb-true, eqb-false, ltb-true}
use Rattle.meaning.specs.declared.Record.{Record}
use Rattle.meaning.specs.Limits.{depth_limit, record_limit}
use Rattle.meaning.specs.Meaning.{Meaning, null, bool, number, string, binary, time, array, object, more, member}
use Rattle.meaning.specs.Tape.{elements_count, members_count}
use Rattle.meaning.specs.Look.{whole_records, RecordAt}
use Rattle.tape.specs.declared.judging.Turn.{Turn}
use Rattle.rules.specs.Between.Tests.{Decides, holds, fails}
use Rattle.tape.specs.Between.Judging.{Formed, Sized, ended_of}
use Rattle.tape.specs.Between.Standing.{read_at, records_from}
use Rattle.tape.specs.Between.Turns.{none, value_due, key_due, counted, pass_of, open_of, leaf_of, if_due, turn_of, TurnIs, stands, no}
use Rattle.tape.proofs.JudgingMachineLaws.{Stated, Frame, root, in_array, in_object, Conf, nothing, whole, elements, members, keyed, broken, says, nay}
use Rattle.tape.proofs.JudgingMachineLaws.{Kind}
use Rattle.tape.proofs.JudgingMachineLaws.{of_values, of_members, slot, put, key, begin, enter, give, settle, shut_here, shut_not, shut_wrong, give_put}
use Rattle.tape.proofs.JudgingMachineLaws.{size_of}
use Rattle.tape.proofs.JudgingMachineLaws.{start_of, there, does, part, act_of, push, finish, run, run_settle, run_broken}
use Rattle.tape.proofs.JudgingWholeLaws.{read_is, verdict, formed_length, nay_unformed, says_formed}

-- whether a value is due, and whether a key is
unfoldable pub due_of : Conf → Bool
due_of nothing = true
due_of (whole m) = false
due_of (elements e ms fs) = true
due_of (members e ms fs) = false
due_of (keyed e ms k fs) = true
due_of broken = false

unfoldable pub keys_of : Conf → Bool
keys_of nothing = false
keys_of (whole m) = false
keys_of (elements e ms fs) = false
keys_of (members e ms fs) = true
keys_of (keyed e ms k fs) = false
keys_of broken = false

unfoldable pub frames_of : Conf → List Frame
frames_of nothing = []
frames_of (whole m) = []
frames_of (elements e ms fs) = fs
frames_of (members e ms fs) = fs
frames_of (keyed e ms k fs) = fs
frames_of broken = []

-- a container waits for another value
abbrev AnyOpen : List Frame → Type 0
AnyOpen [] = ⊥
AnyOpen (f ∷ fs) = Unit {0}

abbrev Bottom : Frame → List Frame → Type 0
Bottom root fs = length fs ≡ 0
Bottom (in_array e ms) fs = AnyOpen fs
Bottom (in_object e ms k) fs = AnyOpen fs

-- ---- what is still to come, as the code counts it; at index i no more than i records have been taken off

abbrev pub Rests : ℕ → Conf → ℕ → Type 0
Rests i nothing r = r ≡ 2
Rests i (whole m) r = r ≡ 0
Rests i (elements e ms fs) r = (r + 2 * elements_count ms ≡ none + 2 * e.count) × (none ≤ r + 2 * i) × AnyOpen fs
Rests i (members e ms fs) r = (r + 4 * members_count ms ≡ none + 4 * e.count + 1) × (none ≤ r + 2 * i) × AnyOpen fs
Rests i (keyed e ms k fs) r = (r + 4 * members_count ms + 2 ≡ none + 4 * e.count + 1) × (none ≤ r + 2 * i) × AnyOpen fs
Rests i broken r = ⊥

-- in a container that waits, once the value is there
abbrev pub RestF : ℕ → Frame → ℕ → Type 0
RestF i root r = r ≡ 0
RestF i (in_array e ms) r = (r + 2 * (elements_count ms + 1) ≡ none + 2 * e.count) × (none ≤ r + 2 * i)
RestF i (in_object e ms k) r = (r + 4 * (members_count ms + 1) ≡ none + 4 * e.count + 1) × (none ≤ r + 2 * i)

rest_later : (f : Frame) (i r : ℕ) → RestF i f r → RestF (i + 1) f r
rest_later root i r h = h
rest_later (in_array e ms) i r h = (h.0, omega (arith, h.1))
rest_later (in_object e ms k) i r h = (h.0, omega (arith, h.1))

due_even : (r : ℕ) → (r ≡ 0 → ⊥) → r % 2 ≡ 0 → value_due r ≡ true
unfolding value_due
due_even r n e =
    ap (λ (b : Bool). cond b false (cond (eqb (r % 2) 0) true (eqb (r % 4) 3))) (ne_eqb r 0 n)
    ∙ ap (λ (b : Bool). cond b true (eqb (r % 4) 3)) (eq-eqb (r % 2) 0 e)

due_odd : (r : ℕ) → r % 2 ≡ 1 → value_due r ≡ eqb (r % 4) 3
unfolding value_due
due_odd r e =
    ap (λ (b : Bool). cond b false (cond (eqb (r % 2) 0) true (eqb (r % 4) 3))) (ne_eqb r 0 (λ z. omega arith))
    ∙ ap (λ (b : Bool). cond b true (eqb (r % 4) 3)) (ne_eqb (r % 2) 0 (λ z. omega arith))

zero_due : value_due 0 ≡ false
unfolding value_due
zero_due = refl

module _ (i : ℕ) (few : i ≤ record_limit) where
  pub due_is : (c : Conf) (r : ℕ) → Rests i c r → value_due r ≡ due_of c
  unfolding due_of
  due_is nothing r h = due_even r (λ z. omega arith) (omega arith)
  due_is (whole m) r h = ap value_due h ∙ zero_due
  due_is (elements e ms fs) r h = due_even r (λ z. omega (arith, h.1)) (omega (arith, h.0))
  due_is (members e ms fs) r h = due_odd r (omega (arith, h.0)) ∙ ne_eqb (r % 4) 3 (λ z. omega (arith, h.0))
  due_is (keyed e ms k fs) r h = due_odd r (omega (arith, h.0)) ∙ eq-eqb (r % 4) 3 (omega (arith, h.0))
  due_is broken r h = absurd h

  pub key_is : (c : Conf) (r : ℕ) → Rests i c r → key_due r ≡ keys_of c
  unfolding keys_of key_due
  key_is nothing r h = ne_eqb (r % 4) 1 (λ z. omega arith)
  key_is (whole m) r h = ne_eqb (r % 4) 1 (λ z. omega arith)
  key_is (elements e ms fs) r h = ne_eqb (r % 4) 1 (λ z. omega (arith, h.0))
  key_is (members e ms fs) r h = eq-eqb (r % 4) 1 (omega (arith, h.0))
  key_is (keyed e ms k fs) r h = ne_eqb (r % 4) 1 (λ z. omega (arith, h.0))
  key_is broken r h = absurd h

-- n records; where nothing is open, their end is the end
module _ (n : ℕ) where
  unfoldable pub end_of : Conf → ℕ
  end_of nothing = n
  end_of (whole m) = n
  end_of (elements e ms fs) = e.end
  end_of (members e ms fs) = e.end
  end_of (keyed e ms k fs) = e.end
  end_of broken = n

  unfoldable pub end_f : Frame → ℕ
  end_f root = n
  end_f (in_array e ms) = e.end
  end_f (in_object e ms k) = e.end

  -- the two stacks hold what waits
  abbrev pub Match : ℕ → List Frame → List ℕ → List ℕ → Type 0
  Match i [] ends rests = Unit {0}
  Match i (f ∷ fs) ends rests =
      (get_or ends (length fs) 0 ≡ end_f f) × (RestF i f (get_or rests (length fs) 0) × (Bottom f fs × Match i fs ends rests))

  match_set : (i : ℕ) (fs : List Frame) (ends rests : List ℕ) (j x y : ℕ) → length fs ≤ j → Match i fs ends rests → Match i fs (set ends j x) (set rests j y)
  match_set i [] ends rests j x y h m = tt
  match_set i (f ∷ fs) ends rests j x y h m = (
    get_or-set_other ends j (length fs) x 0 (λ e. omega arith) ∙ m.0,
    (
      subst (RestF i f) (sym (get_or-set_other rests j (length fs) y 0 (λ e. omega arith))) m.1.0,
      (m.1.1.0, match_set i fs ends rests j x y (omega arith) m.1.1.1),
    ),
  )

  match_later : (i : ℕ) (fs : List Frame) (ends rests : List ℕ) → Match i fs ends rests → Match (i + 1) fs ends rests
  match_later i [] ends rests m = tt
  match_later i (f ∷ fs) ends rests m =
      (m.0, (rest_later f i (get_or rests (length fs) 0) m.1.0, (m.1.1.0, match_later i fs ends rests m.1.1.1)))

  -- ---- what a record does

  -- a value or a key is passed
  pub record Passes (c : Conf) (place a : ℕ) (d : Conf) : Type 0 where
    pub end : end_of d ≡ end_of c
    pub frames : frames_of d ≡ frames_of c
    pub placed : a ≡ place
    pub onward : (i r : ℕ) → i ≤ record_limit → Rests i c r → Rests (i + 1) d (r - 2)

  -- a container opens
  pub record Opens (c : Conf) (at place e rest : ℕ) (d : Conf) : Type 0 where
    pub f : Frame
    pub end : end_of d ≡ e
    pub frames : frames_of d ≡ f ∷ frames_of c
    pub last : end_f f ≡ end_of c
    pub placed : place ≡ at
    pub room : length (frames_of c) < depth_limit
    pub inside : (i : ℕ) → Rests i d rest
    pub under : (i r : ℕ) → i ≤ record_limit → Rests i c r → RestF (i + 1) f (r - 2) × Bottom f (frames_of c)

  -- a turn from c at the place `at` leads to d, with the store used up to `place`
  abbrev pub Leads : Conf → ℕ → ℕ → Option Turn → Conf → Type 0
  Leads c at place None d = d ≡ broken
  Leads c at place (Some (Turn.Pass a)) d = Passes c place a d
  Leads c at place (Some (Turn.Open e r)) d = Opens c at place e r d

  both : (c : Conf) (at place : ℕ) (b : Bool) (x y : Option Turn) (u v : Conf) → (b ≡ true → Leads c at place x u)
      → (b ≡ false → Leads c at place y v) → Leads c at place (cond b x y) (cond b u v)
  both c at place true x y u v f g = f refl
  both c at place false x y u v f g = g refl

  module _ (at : ℕ) where
    by_value : (c : Conf) (m : Meaning) (place : ℕ) → Leads c at place (if_due (due_of c) (Some (Turn.Pass place))) (put m (slot c))
    unfolding slot put due_of end_of frames_of elements_count members_count
    by_value nothing m place = record { end = refl; frames = refl; placed = refl; onward = λ i r l h. omega arith }
    by_value (whole n') m place = refl
    by_value (elements e ms fs) m place =
        record { end = refl; frames = refl; placed = refl; onward = λ i r l h. (omega (arith, h.0, h.1), omega (arith, h.1), h.2) }
    by_value (members e ms fs) m place = refl
    by_value (keyed e ms k fs) m place =
        record { end = refl; frames = refl; placed = refl; onward = λ i r l h. (omega (arith, h.0, h.1), omega (arith, h.1), h.2) }
    by_value broken m place = refl

    by_key : (c : Conf) (k : List ℕ) (place : ℕ) → Leads c at place (if_due (keys_of c) (Some (Turn.Pass place))) (key k c)
    unfolding key keys_of end_of frames_of
    by_key nothing k place = refl
    by_key (whole m) k place = refl
    by_key (elements e ms fs) k place = refl
    by_key (members e ms fs) k place =
        record { end = refl; frames = refl; placed = refl; onward = λ i r l h. (omega (arith, h.0, h.1), omega (arith, h.1), h.2) }
    by_key (keyed e ms k' fs) k place = refl
    by_key broken k place = refl

    -- what is to come in a container that opens
    abbrev inner : Kind → Stated → ℕ
    inner of_values e = none + 2 * e.count
    inner of_members e = none + 4 * e.count + 1

    begun : (k : Kind) (e : Stated) (place : ℕ) (c : Conf) (f : Frame) → end_f f ≡ end_of c → place ≡ at → length (frames_of c) < depth_limit
        → ((i r : ℕ) → i ≤ record_limit → Rests i c r → RestF (i + 1) f (r - 2) × Bottom f (frames_of c))
        → Opens c at place e.end (inner k e) (begin k e (f ∷ frames_of c))
    unfolding end_of frames_of elements_count members_count
    begun of_values e place c f l p h g =
        record {
          f = f;
          end = refl;
          frames = refl;
          last = l;
          placed = p;
          room = h;
          inside = λ i. (omega arith, omega arith, tt);
          under = g;
        }
    begun of_members e place c f l p h g =
        record {
          f = f;
          end = refl;
          frames = refl;
          last = l;
          placed = p;
          room = h;
          inside = λ i. (omega arith, omega arith, tt);
          under = g;
        }

    by_container : (c : Conf) (k : Kind) (e : Stated) (place : ℕ) → place ≡ at
        → Leads c at place (if_due (due_of c) (open_of e.end (inner k e) (length (frames_of c)))) (enter k e (slot c))
    unfolding open_of slot enter due_of end_of frames_of end_f
    by_container nothing k e place p =
        both nothing at place (ltb 0 depth_limit) _ _ _ _
        (λ h. begun k e place nothing root refl p (ltb-true 0 depth_limit h) (λ i r l s. (omega arith, refl))) (λ h. refl)
    by_container (whole m) k e place p = refl
    by_container (elements e' ms fs) k e place p =
        both (elements e' ms fs) at place (ltb (length fs) depth_limit) _ _ _ _
        (λ h. begun k e place (elements e' ms fs) (in_array e' ms) refl p (ltb-true (length fs) depth_limit h)
        (λ i r l s. ((omega (arith, s.0, s.1), omega (arith, s.1)), s.2))) (λ h. refl)
    by_container (members e' ms fs) k e place p = refl
    by_container (keyed e' ms x fs) k e place p =
        both (keyed e' ms x fs) at place (ltb (length fs) depth_limit) _ _ _ _
        (λ h. begun k e place (keyed e' ms x fs) (in_object e' ms x) refl p (ltb-true (length fs) depth_limit h)
        (λ i r l s. ((omega (arith, s.0, s.1), omega (arith, s.1)), s.2))) (λ h. refl)
    by_container broken k e place p = refl

    -- bytes start where the ones before ended
    by_bytes : (c : Conf) (b : Bool) (size start : ℕ) (d : Conf) → Leads c at (at + size) (if_due b (Some (Turn.Pass (at + size)))) d
        → Leads c at (at + size) (if_due b (pass_of size start at)) (there start at d)
    unfolding pass_of
    by_bytes c b size start d l = go b (eqb start at) l
      where
        go : (b x : Bool) → Leads c at (at + size) (cond b (Some (Turn.Pass (at + size))) None) d
            → Leads c at (at + size) (cond b (cond x (Some (Turn.Pass (at + size))) None) None) (cond x d broken)
        go true true l = l
        go true false l = refl
        go false true l = l
        go false false l = refl

    -- a record that has no bytes starts here
    by_none : (c : Conf) (t : Option Turn) (d : Conf) → Leads c at (at + 0) t d → Leads c at (at + 0) t (there at at d)
    by_none c t d l = subst (λ (b : Bool). Leads c at (at + 0) t (cond b d broken)) (sym (eq-eqb at at refl)) l

    plain : (c : Conf) (m : Meaning) → Leads c at (at + 0) (if_due (due_of c) (Some (Turn.Pass at))) (there at at (put m (slot c)))
    plain c m =
        let z : at + 0 ≡ at = omega arith in
        by_none c (if_due (due_of c) (Some (Turn.Pass at))) (put m (slot c))
        (subst (λ (a : ℕ). Leads c at (at + 0) (if_due (due_of c) (Some (Turn.Pass a))) (put m (slot c))) z (by_value c m (at + 0)))

  weighed : (at : ℕ) (store : List ℕ) (c : Conf) (r : Record)
      → Leads c at (at + size_of r) (turn_of r (due_of c) (keys_of c) at (length (frames_of c))) (push store at c r)
  unfolding turn_of leaf_of push does start_of size_of act_of
  weighed at store c Record.Null = plain at c null
  weighed at store c (Record.Bool b) = plain at c (bool b)
  weighed at store c (Record.Number x) = plain at c (number x)
  weighed at store c (Record.Str size start) =
      by_bytes at c (due_of c) size start (put (string (part store at size)) (slot c)) (by_value at c (string (part store at size)) (at + size))
  weighed at store c (Record.Key size start) =
      by_bytes at c (keys_of c) size start (key (part store at size) c) (by_key at c (part store at size) (at + size))
  weighed at store c (Record.Bin size start) =
      by_bytes at c (due_of c) size start (put (binary (part store at size)) (slot c)) (by_value at c (binary (part store at size)) (at + size))
  weighed at store c (Record.Time t) = plain at c (time t)
  weighed at store c (Record.Array count end) =
      let e : Stated = record { count = count; end = end } in
      by_none at c (if_due (due_of c) (open_of end (none + 2 * count) (length (frames_of c)))) (enter of_values e (slot c))
      (by_container at c of_values e (at + 0) (omega arith))
  weighed at store c (Record.Object count end) =
      let e : Stated = record { count = count; end = end } in
      by_none at c (if_due (due_of c) (open_of end (none + 4 * count + 1) (length (frames_of c)))) (enter of_members e (slot c))
      (by_container at c of_members e (at + 0) (omega arith))

  -- ---- a container ends

  calm : (c : Conf) (i : ℕ) → (end_of c ≡ i → ⊥) → settle i c ≡ c
  unfolding settle end_of
  calm nothing i h = refl
  calm (whole m) i h = refl
  calm (elements e ms fs) i h = shut_not i e (elements_count ms) (give i (array ms) fs) (elements e ms fs) h
  calm (members e ms fs) i h = shut_not i e (members_count ms) (give i (object ms) fs) (members e ms fs) h
  calm (keyed e ms k fs) i h = ap (λ (b : Bool). cond b broken (keyed e ms k fs)) (ne_eqb e.end i h)
  calm broken i h = refl

  pub record Popped (c : Conf) (i : ℕ) (ends rests : List ℕ) (d : ℕ) : Type 0 where
    pub c' : Conf
    pub same : settle i c ≡ settle i c'
    pub rests_are : Rests i c' (get_or rests d 0)
    pub end : get_or ends d 0 ≡ end_of c'
    pub frames : d ≡ length (frames_of c')
    pub matched : Match i (frames_of c') ends rests

  put_down : (c : Conf) (i : ℕ) (ends rests : List ℕ) (m : Meaning) (f : Frame) (fs : List Frame) → settle i c ≡ settle i (put m (f ∷ fs))
      → Match i (f ∷ fs) ends rests → Popped c i ends rests (length fs)
  unfolding put end_f end_of frames_of elements_count members_count
  put_down c i ends rests m root [] s t = record { c' = whole m; same = s; rests_are = t.1.0; end = t.0; frames = refl; matched = tt }
  put_down c i ends rests m root (g ∷ fs) s t = absurd (omega (arith, t.1.1.0))
  put_down c i ends rests m (in_array e ms) fs s t = record {
    c' = elements e (more ms m) fs;
    same = s;
    rests_are = (t.1.0.0, t.1.0.1, t.1.1.0);
    end = t.0;
    frames = refl;
    matched = t.1.1.1;
  }
  put_down c i ends rests m (in_object e ms k) fs s t = record {
    c' = members e (member ms k m) fs;
    same = s;
    rests_are = (t.1.0.0, t.1.0.1, t.1.1.0);
    end = t.0;
    frames = refl;
    matched = t.1.1.1;
  }

  -- what the code finds at a container's end
  counted_is : (r : ℕ) → counted r ≡ true → (r ≡ none + 1 → ⊥) → r ≡ none
  unfolding counted
  counted_is r e h = go (eqb r none) refl e
    where
      go : (b : Bool) → eqb r none ≡ b → cond b true (eqb r (none + 1)) ≡ true → r ≡ none
      go true q e = eqb-true r none q
      go false q e = absurd (h (eqb-true r (none + 1) e))

  counted_not : (r : ℕ) → counted r ≡ false → (r ≡ none → ⊥) × (r ≡ none + 1 → ⊥)
  unfolding counted
  counted_not r e = go (eqb r none) refl e
    where
      go : (b : Bool) → eqb r none ≡ b → cond b true (eqb r (none + 1)) ≡ false → (r ≡ none → ⊥) × (r ≡ none + 1 → ⊥)
      go true q e = let z : ◌≡◌ {A = ℕ} 0 1 = cc in absurd (omega arith)
      go false q e = (eqb-false r none q, eqb-false r (none + 1) e)

  counted_or : (r : ℕ) → counted r ≡ true → (r ≡ none → ⊥) → r ≡ none + 1
  unfolding counted
  counted_or r e h = go (eqb r none) refl e
    where
      go : (b : Bool) → eqb r none ≡ b → cond b true (eqb r (none + 1)) ≡ true → r ≡ none + 1
      go true q e = absurd (h (eqb-true r none q))
      go false q e = eqb-true r (none + 1) e

  pop_conf : (c : Conf) (i r : ℕ) (ends rests : List ℕ) → end_of c ≡ i → (length (frames_of c) ≡ 0 → ⊥) → counted r ≡ true
      → Match i (frames_of c) ends rests → Rests i c r → Popped c i ends rests (length (frames_of c) - 1)
  unfolding settle end_of frames_of
  pop_conf nothing i r ends rests q d k t a = absurd (d refl)
  pop_conf (whole m) i r ends rests q d k t a = absurd (d refl)
  pop_conf (elements e ms []) i r ends rests q d k t a = absurd (d refl)
  pop_conf (elements e ms (f ∷ fs)) i r ends rests q d k t a =
      let j : length fs ≡ suc (length fs) - 1 = omega arith in
      let z : r ≡ none = counted_is r k (λ x. omega (arith, a.0)) in
      subst (Popped (elements e ms (f ∷ fs)) i ends rests) j
      (put_down (elements e ms (f ∷ fs)) i ends rests (array ms) f fs
      (shut_here i e (elements_count ms) (give i (array ms) (f ∷ fs)) (elements e ms (f ∷ fs)) q (omega (arith, a.0)) ∙ give_put i (array ms) (f ∷ fs)) t)
  pop_conf (members e ms []) i r ends rests q d k t a = absurd (d refl)
  pop_conf (members e ms (f ∷ fs)) i r ends rests q d k t a =
      let j : length fs ≡ suc (length fs) - 1 = omega arith in
      let z : r ≡ none + 1 = counted_or r k (λ x. omega (arith, a.0)) in
      subst (Popped (members e ms (f ∷ fs)) i ends rests) j
      (put_down (members e ms (f ∷ fs)) i ends rests (object ms) f fs
      (shut_here i e (members_count ms) (give i (object ms) (f ∷ fs)) (members e ms (f ∷ fs)) q (omega (arith, a.0)) ∙ give_put i (object ms) (f ∷ fs)) t)
  pop_conf (keyed e ms x fs) i r ends rests q d k t a =
      let z : r ≡ none = counted_is r k (λ y. omega (arith, a.0)) in
      absurd (omega (arith, a.0))
  pop_conf broken i r ends rests q d k t a = absurd a

  -- a container that has not counted right
  stop_wrong : (c : Conf) (i r : ℕ) → end_of c ≡ i → (length (frames_of c) ≡ 0 → ⊥) → counted r ≡ false → Rests i c r → settle i c ≡ settle i broken
  unfolding settle end_of frames_of
  stop_wrong nothing i r q d k a = absurd (d refl)
  stop_wrong (whole m) i r q d k a = absurd (d refl)
  stop_wrong (elements e ms fs) i r q d k a =
      let z = counted_not r k in
      shut_wrong i e (elements_count ms) (give i (array ms) fs) (elements e ms fs) q (λ x. z.0 (omega (arith, a.0)))
  stop_wrong (members e ms fs) i r q d k a =
      let z = counted_not r k in
      shut_wrong i e (members_count ms) (give i (object ms) fs) (members e ms fs) q (λ x. z.1 (omega (arith, a.0)))
  stop_wrong (keyed e ms x fs) i r q d k a = ap (λ (b : Bool). cond b broken (keyed e ms x fs)) (eq-eqb e.end i q)
  stop_wrong broken i r q d k a = refl

-- ---- the loop

pub pass_is : {a : ℕ} → Some (Turn.Pass a) ≡ None → ⊥
pass_is e = let z : ◌≡◌ {A = ℕ} 0 1 = cc in omega arith

pub open_is : {e r : ℕ} → Some (Turn.Open e r) ≡ None → ⊥
open_is q = let z : ◌≡◌ {A = ℕ} 0 1 = cc in omega arith

-- nothing stands where neither a value nor a key is due
idle : (r : Record) (at depth : ℕ) → turn_of r false false at depth ≡ None
unfolding turn_of
idle Record.Null at depth = refl
idle (Record.Bool b) at depth = refl
idle (Record.Number n) at depth = refl
idle (Record.Str size start) at depth = refl
idle (Record.Key size start) at depth = refl
idle (Record.Bin size start) at depth = refl
idle (Record.Time t) at depth = refl
idle (Record.Array count end) at depth = refl
idle (Record.Object count end) at depth = refl

pub record State (tape store : List ℕ) (ends rests : List ℕ) (depth end rest at i : ℕ) : Type 0 where
  pub c : Conf
  pub runs : verdict (whole_records tape) tape store ≡ run store (records_from (whole_records tape - i) tape i) i at c
  pub is_rest : Rests i c rest
  pub is_end : end ≡ end_of (whole_records tape) c
  pub is_depth : depth ≡ length (frames_of c)
  pub matched : Match (whole_records tape) i (frames_of c) ends rests
  pub within : i ≤ whole_records tape
  pub few : whole_records tape ≤ record_limit
  pub deepest : depth ≤ depth_limit
  pub ends_length : length ends ≡ depth_limit
  pub rests_length : length rests ≡ depth_limit
  pub each : (k : ℕ) → k < i → RecordAt tape store k (read_at tape k)

module _ {tape store : List ℕ} where
  pub state_start : (ends rests : List ℕ) → whole_records tape ≤ record_limit → length ends ≡ depth_limit → length rests ≡ depth_limit
      → State tape store ends rests 0 (whole_records tape) 2 0 0
  unfolding end_of frames_of
  state_start ends rests f a b = record {
    c = nothing;
    runs = let z : whole_records tape ≡ whole_records tape - 0 = omega arith in ap (λ (k : ℕ). run store (records_from k tape 0) 0 0 nothing) z;
    is_rest = refl;
    is_end = refl;
    is_depth = refl;
    matched = tt;
    within = omega arith;
    few = f;
    deepest = omega arith;
    ends_length = a;
    rests_length = b;
    each = λ k q. absurd (omega arith);
  }

  module _ {ends rests : List ℕ} {depth end rest at i : ℕ} (v : State tape store ends rests depth end rest at i) where
    small : i ≤ record_limit
    small = omega (arith, v.within, v.few)

    pub state_pop : i ≡ end → (depth ≡ 0 → ⊥) → counted rest ≡ true → State tape store ends rests (depth - 1) (get_or ends (depth - 1) 0)
        (get_or rests (depth - 1) 0) at i
    state_pop e z k =
        let j : depth - 1 ≡ length (frames_of v.c) - 1 = ap (λ (x : ℕ). x - 1) v.is_depth in
        let p = subst (Popped (whole_records tape) v.c i ends rests) (sym j)
        (pop_conf (whole_records tape) v.c i rest ends rests (sym v.is_end ∙ sym e) (λ q. z (v.is_depth ∙ q)) k v.matched v.is_rest) in
        record {
          c = p.c';
          runs = v.runs ∙ run_settle store (records_from (whole_records tape - i) tape i) i at v.c p.c' p.same;
          is_rest = p.rests_are;
          is_end = p.end;
          is_depth = p.frames;
          matched = p.matched;
          within = v.within;
          few = v.few;
          deepest = omega (arith, v.deepest);
          ends_length = v.ends_length;
          rests_length = v.rests_length;
          each = v.each;
        }

    pub state_wrong : i ≡ end → (depth ≡ 0 → ⊥) → counted rest ≡ false → verdict (whole_records tape) tape store ≡ nay
    state_wrong e z k =
        let rs = records_from (whole_records tape - i) tape i in
        v.runs
        ∙ run_settle store rs i at v.c broken
        (stop_wrong (whole_records tape) v.c i rest (sym v.is_end ∙ sym e) (λ q. z (v.is_depth ∙ q)) k v.is_rest)
        ∙ run_broken store rs i at

    all_passed : (c : Conf) → i ≡ whole_records tape → settle i c ≡ c → run store (records_from (whole_records tape - i) tape i) i at c ≡ finish store at c
    unfolding run records_from
    all_passed c e s =
        let z : whole_records tape - i ≡ 0 = omega arith in ap (λ (k : ℕ). run store (records_from k tape i) i at c) z ∙ ap (finish store at) s

    -- nothing is open, and all records are passed
    pub state_ended : i ≡ end → depth ≡ 0 → (i ≡ whole_records tape) × (verdict (whole_records tape) tape store ≡ finish store at v.c)
    unfolding end_of frames_of settle
    state_ended e z = at_bottom v.c (sym v.is_end ∙ sym e) (sym v.is_depth ∙ z) v.is_rest v.runs
      where
        at_bottom : (c : Conf) → end_of (whole_records tape) c ≡ i → length (frames_of c) ≡ 0 → Rests i c rest
            → verdict (whole_records tape) tape store ≡ run store (records_from (whole_records tape - i) tape i) i at c
            → (i ≡ whole_records tape) × (verdict (whole_records tape) tape store ≡ finish store at c)
        at_bottom nothing q d a r = (sym q, r ∙ all_passed nothing (sym q) refl)
        at_bottom (whole m) q d a r = (sym q, r ∙ all_passed (whole m) (sym q) refl)
        at_bottom (elements s ms []) q d a r = absurd a.2
        at_bottom (elements s ms (f ∷ fs)) q d a r = absurd (omega arith)
        at_bottom (members s ms []) q d a r = absurd a.2
        at_bottom (members s ms (f ∷ fs)) q d a r = absurd (omega arith)
        at_bottom (keyed s ms k []) q d a r = absurd a.2
        at_bottom (keyed s ms k (f ∷ fs)) q d a r = absurd (omega arith)
        at_bottom broken q d a r = absurd a

    module _ (go : i ≡ end → ⊥) where
      no_end : end_of (whole_records tape) v.c ≡ i → ⊥
      no_end q = go (sym q ∙ sym v.is_end)

      quiet : settle i v.c ≡ v.c
      quiet = calm (whole_records tape) v.c i no_end

      -- the records are over, and a container is open
      pub state_over : i ≡ whole_records tape → verdict (whole_records tape) tape store ≡ nay
      unfolding finish end_of
      state_over e = v.runs ∙ all_passed v.c e quiet ∙ open_still v.c no_end
        where
          open_still : (c : Conf) → (end_of (whole_records tape) c ≡ i → ⊥) → finish store at c ≡ nay
          open_still nothing h = refl
          open_still (whole m) h = absurd (h (sym e))
          open_still (elements s ms fs) h = refl
          open_still (members s ms fs) h = refl
          open_still (keyed s ms k fs) h = refl
          open_still broken h = refl

      -- the record at index i is r
      module _ (r : Record) (there-is : RecordAt tape store i r) where
        next_conf : Conf
        next_conf = push store at v.c r

        onward : verdict (whole_records tape) tape store
            ≡ run store (records_from (whole_records tape - (i + 1)) tape (i + 1)) (i + 1) (at + size_of r) next_conf
        unfolding run records_from next_conf
        onward =
            let z : whole_records tape - i ≡ suc (whole_records tape - (i + 1)) = omega (arith, there-is.within) in
            let rs = records_from (whole_records tape - (i + 1)) tape (i + 1) in
            v.runs
            ∙ ap (λ (k : ℕ). run store (records_from k tape i) i at v.c) z
            ∙ ap₂ (λ (x : Conf) (y : Record). run store rs (i + 1) (at + size_of y) (push store at x y)) quiet (read_is tape store i r there-is)

        each_more : (k : ℕ) → k < i + 1 → RecordAt tape store k (read_at tape k)
        each_more k h = go_on (dec_lt k i)
          where
            go_on : Dec (k < i) → RecordAt tape store k (read_at tape k)
            go_on (Dec.yes l) = v.each k l
            go_on (Dec.no l) =
                let e : i ≡ k = omega arith in
                subst (λ (x : ℕ). RecordAt tape store x (read_at tape x)) e (subst (RecordAt tape store i) (sym (read_is tape store i r there-is)) there-is)

        turns : turn_of r (value_due rest) (key_due rest) at depth ≡ turn_of r (due_of v.c) (keys_of v.c) at (length (frames_of v.c))
        turns =
            ap₂ (λ (x y : Bool). turn_of r x y at depth) (due_is i small v.c rest v.is_rest) (key_is i small v.c rest v.is_rest)
            ∙ ap (turn_of r (due_of v.c) (keys_of v.c) at) v.is_depth

        leads : (t : Option Turn) → t ≡ turn_of r (value_due rest) (key_due rest) at depth → Leads (whole_records tape) v.c at (at + size_of r) t next_conf
        unfolding next_conf
        leads t was =
            subst (λ (x : Option Turn). Leads (whole_records tape) v.c at (at + size_of r) x (push store at v.c r)) (sym turns ∙ sym was)
            (weighed (whole_records tape) at store v.c r)

        pub state_no : turn_of r (value_due rest) (key_due rest) at depth ≡ None → verdict (whole_records tape) tape store ≡ nay
        state_no was =
            onward
            ∙ ap (run store (records_from (whole_records tape - (i + 1)) tape (i + 1)) (i + 1) (at + size_of r)) (leads None (sym was))
            ∙ run_broken store (records_from (whole_records tape - (i + 1)) tape (i + 1)) (i + 1) (at + size_of r)

        -- what stands is taken off
        pub state_two : {t : Option Turn} → (t ≡ None → ⊥) → t ≡ turn_of r (value_due rest) (key_due rest) at depth → 2 ≤ rest
        unfolding due_of keys_of
        state_two {t} h was = by_conf v.c v.is_rest (was ∙ turns)
          where
            by_conf : (c : Conf) → Rests i c rest → t ≡ turn_of r (due_of c) (keys_of c) at (length (frames_of c)) → 2 ≤ rest
            by_conf nothing a q = omega arith
            by_conf (whole m) a q = absurd (h (q ∙ idle r at _))
            by_conf (elements s ms fs) a q = omega (arith, a.1, small)
            by_conf (members s ms fs) a q = omega (arith, a.1, small)
            by_conf (keyed s ms k fs) a q = omega (arith, a.1, small)
            by_conf broken a q = absurd a

        pub state_pass : (a : ℕ) → Some (Turn.Pass a) ≡ turn_of r (value_due rest) (key_due rest) at depth
            → State tape store ends rests depth end (rest - 2) a (i + 1)
        state_pass a was =
            let o = leads (Some (Turn.Pass a)) was in
            record {
              c = next_conf;
              runs = onward ∙ ap (λ (x : ℕ). run store (records_from (whole_records tape - (i + 1)) tape (i + 1)) (i + 1) x next_conf) (sym o.placed);
              is_rest = o.onward i rest small v.is_rest;
              is_end = v.is_end ∙ sym o.end;
              is_depth = v.is_depth ∙ ap length (sym o.frames);
              matched = subst (λ (l : List Frame). Match (whole_records tape) (i + 1) l ends rests) (sym o.frames)
                  (match_later (whole_records tape) i (frames_of v.c) ends rests v.matched);
              within = omega (arith, there-is.within);
              few = v.few;
              deepest = v.deepest;
              ends_length = v.ends_length;
              rests_length = v.rests_length;
              each = each_more;
            }

        pub open_room : (e k : ℕ) → Some (Turn.Open e k) ≡ turn_of r (value_due rest) (key_due rest) at depth → depth < depth_limit
        open_room e k was = omega (arith, (leads (Some (Turn.Open e k)) was).room, v.is_depth)

        pub state_opened : (e k : ℕ) → Some (Turn.Open e k) ≡ turn_of r (value_due rest) (key_due rest) at depth
            → State tape store (set ends depth end) (set rests depth (rest - 2)) (depth + 1) e k at (i + 1)
        state_opened e k was =
            let o = leads (Some (Turn.Open e k)) was in
            let h : depth < depth_limit = open_room e k was in
            let l : length (frames_of v.c) ≡ depth = sym v.is_depth in
            let u = o.under i rest small v.is_rest in
            let same : get_or (set rests depth (rest - 2)) (length (frames_of v.c)) 0 ≡ rest - 2 =
            ap (λ (x : ℕ). get_or (set rests depth (rest - 2)) x 0) l ∙ get_or-set_same rests depth (rest - 2) 0 (omega (arith, v.rests_length)) in
            record {
              c = next_conf;
              runs = onward ∙ ap (λ (x : ℕ). run store (records_from (whole_records tape - (i + 1)) tape (i + 1)) (i + 1) x next_conf) o.placed;
              is_rest = o.inside (i + 1);
              is_end = sym o.end;
              is_depth = add-one depth ∙ ap suc v.is_depth ∙ ap length (sym o.frames);
              matched =
                  subst (λ (x : List Frame). Match (whole_records tape) (i + 1) x (set ends depth end) (set rests depth (rest - 2))) (sym o.frames) (
                    ap (λ (x : ℕ). get_or (set ends depth end) x 0) l ∙ get_or-set_same ends depth end 0 (omega (arith, v.ends_length)) ∙ v.is_end ∙ sym o.last,
                    (
                      subst (RestF (i + 1) o.f) (sym same) u.0,
                      (
                        u.1,
                        match_set (whole_records tape) (i + 1) (frames_of v.c) ends rests depth end (rest - 2) (omega arith)
                            (match_later (whole_records tape) i (frames_of v.c) ends rests v.matched),
                      ),
                    ),
                  );
              within = omega (arith, there-is.within);
              few = v.few;
              deepest = omega arith;
              ends_length = length-set ends depth end ∙ v.ends_length;
              rests_length = length-set rests depth (rest - 2) ∙ v.rests_length;
              each = each_more;
            }

-- ---- what is answered

module _ {tape store : List ℕ} {ends rests : List ℕ} {depth end rest at i : ℕ} (v : State tape store ends rests depth end rest at i) (z : Sized tape store)
  where
    pub answer_ill : verdict (whole_records tape) tape store ≡ nay → Decides (Formed tape store) false
    answer_ill e = fails (nay_unformed tape store (whole_records tape) z.whole e)

    -- no record stands there, or none that may
    pub answer_no : (i ≡ end → ⊥) → {t : Option Turn} → TurnIs tape store i rest at depth t → t ≡ None → Decides (Formed tape store) false
    answer_no q (stands r a f) e = answer_ill (state_no v q r a (sym f ∙ e))
    answer_no q (no g) e = by_index (dec_lt i (whole_records tape))
      where
        by_index : Dec (i < whole_records tape) → Decides (Formed tape store) false
        by_index (Dec.yes l) =
            fails
            (λ w.
            let a = w.each i (omega (arith, formed_length tape store w)) in
            nay_unformed tape store (whole_records tape) z.whole (state_no v q _ a (g _ a)) w)
        by_index (Dec.no l) = answer_ill (state_over v q (omega (arith, v.within)))

    -- all records are passed
    pub answer_ended : ((j : ℕ) → get_or tape j 0 < 256) → ((j : ℕ) → get_or store j 0 < 256) → i ≡ end → depth ≡ 0
        → Decides (Formed tape store) (ended_of rest at (length store))
    unfolding finish frames_of
    answer_ended tape_bytes_lem store_Bytes e d =
        let f = state_ended v e d in
        by_conf v.c v.is_rest f.0 f.1 (sym v.is_depth ∙ d)
      where
        by_store : (m : Meaning) (b : Bool) → i ≡ whole_records tape → verdict (whole_records tape) tape store ≡ cond b (says m) nay
            → Decides (Formed tape store) b
        by_store m true l f =
            holds (says_formed tape store (whole_records tape) z.whole tape_bytes_lem store_Bytes z.few z.short (λ k q. v.each k (omega arith)) m f)
        by_store m false l f = answer_ill f

        by_conf : (c : Conf) → Rests i c rest → i ≡ whole_records tape → verdict (whole_records tape) tape store ≡ finish store at c
            → length (frames_of c) ≡ 0 → Decides (Formed tape store) (cond (eqb rest 0) (eqb at (length store)) false)
        by_conf nothing a l f q =
            subst (λ (b : Bool). Decides (Formed tape store) (cond b (eqb at (length store)) false))
            (sym (ne_eqb rest 0 (λ x. omega arith))) (answer_ill f)
        by_conf (whole m) a l f q =
            subst (λ (b : Bool). Decides (Formed tape store) (cond b (eqb at (length store)) false)) (sym (eq-eqb rest 0 a))
            (by_store m (eqb at (length store)) l f)
        by_conf (elements s ms []) a l f q = absurd a.2
        by_conf (elements s ms (g ∷ fs)) a l f q = absurd (omega arith)
        by_conf (members s ms []) a l f q = absurd a.2
        by_conf (members s ms (g ∷ fs)) a l f q = absurd (omega arith)
        by_conf (keyed s ms k []) a l f q = absurd a.2
        by_conf (keyed s ms k (g ∷ fs)) a l f q = absurd (omega arith)
        by_conf broken a l f q = absurd a

-- sizes over their limits
pub answer_sizes : {tape store : List ℕ} → (Sized tape store → ⊥) → Decides (Formed tape store) false
answer_sizes {tape} {store} h =
    fails
    (λ w. h
    (record {
      whole = omega (arith, formed_length tape store w);
      few = omega (arith, formed_length tape store w, w.few);
      short = omega (arith, ap length w.stored, w.short);
    }))
