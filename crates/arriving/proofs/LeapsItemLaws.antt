-- Over an item that ends within a part, the check comes byte by byte to where the item has stopped. Assumes nothing.
use Prim.Native.Nat.{ℕ, suc, ◌+◌, ◌*◌, ◌-◌, ◌≤◌, ◌<◌}
use mathlib.Core.Bool.{true}
use mathlib.Core.Path.{◌≡◌, refl, sym, ap, ◌∙◌, subst}
use mathlib.Core.List.{List, [], ◌∷◌}
use native.Mathlib.Omega.{arith}
use lib.ListN.{length, drop, get_or, length-drop}
use lib.Seq.{drop-cons, drop-drop, get_or-drop}
use Rattle.rules.proofs.Characters.{Each, all_none, all_more}
use Rattle.meaning.specs.Limits.{text_limit}
use Rattle.machine.specs.Scan as Scan
use Rattle.machine.specs.Scan.{Ran, ended, unended, goes_on, ran, over}
use Rattle.arriving.specs.declared.states.Due.{Due}
use Rattle.arriving.specs.declared.states.Mode as ModeOf
use Rattle.arriving.specs.declared.states.Mode.TheVariants as Mode
use Rattle.arriving.specs.declared.states.Out as OutOf
use Rattle.arriving.specs.declared.states.Out.TheVariants.{Takes, Stops}
use Rattle.arriving.specs.Between.Steps.{Stand, here_of, next, on_mode, done, walked}
use Rattle.arriving.specs.declared.leaps.Spot.{Spot}
use Rattle.arriving.specs.Between.Arriving.{sane_mode, sane_here}
use Rattle.arriving.specs.Between.Leaps.{Leapt, due_at, stand_of, Bytes}
use Rattle.arriving.proofs.Alike.{Alike, takes, stops, breaks}
use Rattle.arriving.proofs.Bounds.{Bounded}
use Rattle.arriving.proofs.LeapsLaws.{sane_within, within_sane}

-- a stand in this mode, with the rest of it
abbrev pub standing : ModeOf.Mode → Due → ℕ → ℕ → ℕ → List ℕ → Stand
standing m u d r w ks = (here_of m u d r w, ks)

-- from a stand at p the check comes to another at q, over the bytes t
pub record Comes (base p : ℕ) (t : List ℕ) (x : Stand) (q : ℕ) (y : Stand) : Type 0 where
  pub behind : p ≤ q
  pub within : q ≤ p + length t
  pub same : walked x (base + p) t ≡ walked y (base + q) (drop (q - p) t)

come_here : (base p : ℕ) (t : List ℕ) (x y : Stand) → walked x (base + p) t ≡ walked y (base + p) t → Comes base p t x p y
come_here base p t x y e =
    let z : p - p ≡ 0 = omega arith in
    record { behind = omega arith; within = omega arith; same = rw z e }

come_later : (base p b : ℕ) (t : List ℕ) (x x' y : Stand) (q : ℕ) → next x (base + p) b ≡ x' → Comes base (suc p) t x' q y → Comes base p (b ∷ t) x q y
unfolding walked
come_later base p b t x x' y q e h =
    let l = h.behind in
    let z : q - p ≡ suc (q - suc p) = omega arith in
    let w : base + suc p ≡ suc (base + p) = omega arith in
    record {
      behind = omega arith;
      within = omega (arith, h.within);
      same = rw z (ap (λ (c : Stand). walked c (suc (base + p)) t) e ∙ ap (λ (n : ℕ). walked x' n t) (sym w) ∙ h.same);
    }

-- a mode within its bounds after a byte more
one_more : (base p : ℕ) (m : ModeOf.Mode) → sane_mode (suc (base + p)) m ≡ true → sane_mode (base + suc p) m ≡ true
one_more base p m h = let z : base + suc p ≡ suc (base + p) = omega arith in rw z h

each_byte : (t : List ℕ) → Bytes t → Each (λ b. b < 256) t
each_byte [] h = all_none
each_byte (b ∷ t) h = all_more (h 0) (each_byte t (λ i. h (suc i)))

each_after : (part : List ℕ) (n : ℕ) → Bytes part → Each (λ b. b < 256) (drop n part)
each_after part n h = each_byte (drop n part) (λ i. rw (get_or-drop n part i 0) (h (n + i)))

-- what is known of a spot after an item, beside its stand
pub record Lands (part : List ℕ) (x y : Spot) : Type 0 where
  pub depth : y.depth ≡ x.depth
  pub records : y.records ≤ x.records + 1
  pub stored : y.stored ≤ x.stored + 300 * (y.at - x.at)
  pub past : x.at < y.at
  pub within : y.at < length part

lands_sane : (part : List ℕ) (base : ℕ) (x y : Spot) (ks : List ℕ) → Lands part x y
    → sane_here (base + x.at) (stand_of x ks).0 ≡ true → sane_here (base + y.at) (stand_of y ks).0 ≡ true
unfolding sane_mode
lands_sane part base x y ks l h =
    let i = sane_within (base + x.at) (stand_of x ks).0 h in
    let a = l.past in
    within_sane (base + y.at) (stand_of y ks).0 (record {
      deep = rw l.depth i.deep;
      records = omega (arith, l.records, i.records);
      stored = omega (arith, l.stored, i.stored);
      mode = refl;
    })

module _ {S M : Type 0} (scan : ℕ → S → ℕ → Scan.Out S M) (Is : ModeOf.Mode → S → ℕ → Type 0) (Gives : M → ℕ → Type 0)
    (base : ℕ) (step : ModeOf.Mode → ℕ → ℕ → OutOf.Out)
    (alike : (m : ModeOf.Mode) (s : S) (n p b : ℕ) → Is m s n → b < 256 → base + p ≤ text_limit → sane_mode (base + p) m ≡ true
    → Alike Is Gives base n (step m (base + p) b) (scan p s b))
    (bounded : (m : ModeOf.Mode) (s : S) (n p b : ℕ) → Is m s n → sane_mode p m ≡ true → Bounded (suc p) (step m p b))
    (steps : (m : ModeOf.Mode) (s : S) (n p b : ℕ) (x : Stand) → Is m s n → on_mode x p b m ≡ done x p b (step m p b)) where
  module _ (u : Due) (d r : ℕ) (ks : List ℕ) where
    -- the item has given w store bytes less n before, and gives v in all
    pub record Ends (p : ℕ) (t : List ℕ) (m : ModeOf.Mode) (n w : ℕ) (v : M) (q : ℕ) : Type 0 where
      pub more : ℕ
      pub gives : Gives v (n + more)
      pub comes : Comes base p t (standing m u d r w ks) q (standing Mode.At u d r (w + more) ks)

    no_end : (p : ℕ) (s : S) (v : M) (q : ℕ) (o : Scan.Out S M) → goes_on scan p (λ s'. unended) o ≡ ended v q → q < p + 0 → ⊥
    no_end p s v q (Scan.takes s') h k = let z : ◌≡◌ {A = ℕ} 0 1 = cc in omega arith
    no_end p s v q (Scan.stops x) h k = let z : p ≡ q = cc in omega arith
    no_end p s v q (Scan.breaks r') h k = let z : ◌≡◌ {A = ℕ} 0 1 = cc in omega arith

    -- the byte before which the item stops
    at_stop : (p b : ℕ) (t : List ℕ) (m : ModeOf.Mode) (n w : ℕ) (x v : M) (q : ℕ) → Gives x n → ◌≡◌ {A = Ran M} (ended x p) (ended v q)
        → on_mode (standing m u d r w ks) (base + p) b m ≡ done (standing m u d r w ks) (base + p) b Stops → Ends p (b ∷ t) m n w v q
    unfolding walked done on_mode
    at_stop p b t m n w x v q g e f =
        let a : x ≡ v = cc in
        let c : p ≡ q = cc in
        let z : n + 0 ≡ n = omega arith in
        let y : w + 0 ≡ w = omega arith in
        subst (λ (k : ℕ). Ends p (b ∷ t) m n w v k) c (record {
          more = 0;
          gives = rw z (subst (λ (k : M). Gives k n) a g);
          comes = rw y (come_here base p (b ∷ t) _ (standing Mode.At u d r w ks) (ap (λ (k : Stand). walked k (suc (base + p)) t) f));
        })

    further : (p b : ℕ) (t : List ℕ) (m m' : ModeOf.Mode) (n k w : ℕ) (v : M) (q : ℕ)
        → on_mode (standing m u d r w ks) (base + p) b m ≡ done (standing m u d r w ks) (base + p) b (Takes m' k)
        → Ends (suc p) t m' (n + k) (w + k) v q → Ends p (b ∷ t) m n w v q
    unfolding done
    further p b t m m' n k w v q f h =
        let z : n + (k + h.more) ≡ n + k + h.more = omega arith in
        let y : w + (k + h.more) ≡ w + k + h.more = omega arith in
        record {
          more = k + h.more;
          gives = rw z h.gives;
          comes = rw y (come_later base p b t _ (standing m' u d r (w + k) ks) _ q f h.comes);
        }

    pub item_passed : (t : List ℕ) (p : ℕ) (m : ModeOf.Mode) (s : S) (n w : ℕ) (v : M) (q : ℕ) → Is m s n → sane_mode (base + p) m ≡ true
        → Each (λ b. b < 256) t → base + p + length t ≤ text_limit → ran scan p s t ≡ ended v q → q < p + length t → Ends p t m n w v q
    unfolding ran
    item_passed [] p m s n w v q i o e l h k = absurd (no_end p s v q (scan p s over) h k)
    item_passed (b ∷ t) p m s n w v q i o (all_more f e) l h k =
        go (λ m' s' n' w' i' o' h'. item_passed t (suc p) m' s' n' w' v q i' o' e (omega arith) h' (omega arith)) (step m (base + p) b) (scan p s b)
        (alike m s n p b i f (omega arith) o) (bounded m s n (base + p) b i o) (steps m s n (base + p) b (standing m u d r w ks) i) h
      where
        go : ((m' : ModeOf.Mode) (s' : S) (n' w' : ℕ) → Is m' s' n' → sane_mode (base + suc p) m' ≡ true → ran scan (suc p) s' t ≡ ended v q
            → Ends (suc p) t m' n' w' v q)
            → (o : OutOf.Out) (o' : Scan.Out S M) → Alike Is Gives base n o o' → Bounded (suc (base + p)) o
            → on_mode (standing m u d r w ks) (base + p) b m ≡ done (standing m u d r w ks) (base + p) b o
            → goes_on scan p (λ s'. ran scan (suc p) s' t) o' ≡ ended v q → Ends p (b ∷ t) m n w v q
        go ih _ _ (takes {m = m'} {s = s'} {k = j} i') z x h' =
            further p b t m m' n j w v q x (ih m' s' (n + j) (w + j) i' (one_more base p m' z.0) h')
        go ih _ _ (stops {v = y} g) z x h' = at_stop p b t m n w y v q g h' x
        go ih _ _ (breaks g) z x h' = absurd (let z' : ◌≡◌ {A = ℕ} 0 1 = cc in omega arith)

  -- an item from its first byte, in a part: the byte begins it as o says, and v is its value
  module _ (part : List ℕ) (x : Spot) (ks : List ℕ) (y : Spot) (o : OutOf.Out) (v : M) where
    whole_then : (t : List ℕ) (m : ModeOf.Mode) (k : ℕ) → drop x.at part ≡ get_or part x.at 0 ∷ t
        → next (stand_of x ks) (base + x.at) (get_or part x.at 0) ≡ standing m (due_at y) y.depth y.records (x.stored + k) ks
        → ((n : ℕ) → Gives v n → y.stored ≡ x.stored + n)
        → Ends (due_at y) y.depth y.records ks (suc x.at) t m (0 + k) (x.stored + k) v y.at
        → walked (stand_of x ks) (base + x.at) (drop x.at part) ≡ walked (stand_of y ks) (base + y.at) (drop y.at part)
    whole_then t m k d f g h =
        let c = come_later base x.at (get_or part x.at 0) t (stand_of x ks) (standing m (due_at y) y.depth y.records (x.stored + k) ks)
        (standing Mode.At (due_at y) y.depth y.records (x.stored + k + h.more) ks) y.at f h.comes in
        let l = c.behind in
        let z : x.at + (y.at - x.at) ≡ y.at = omega arith in
        let w : x.stored + k + h.more ≡ y.stored = omega (arith, g (0 + k + h.more) h.gives) in
        ap (λ (t' : List ℕ). walked (stand_of x ks) (base + x.at) t') d ∙ c.same
        ∙ ap (λ (t' : List ℕ). walked (standing Mode.At (due_at y) y.depth y.records (x.stored + k + h.more) ks) (base + y.at)
        (drop (y.at - x.at) t'))
        (sym d)
        ∙ ap (λ (t' : List ℕ). walked (standing Mode.At (due_at y) y.depth y.records (x.stored + k + h.more) ks) (base + y.at) t')
        (drop-drop (y.at - x.at) x.at part ∙ ap (λ (n : ℕ). drop n part) z)
        ∙ ap (λ (n : ℕ). walked (standing Mode.At (due_at y) y.depth y.records n ks) (base + y.at) (drop y.at part)) w

    pub item_leapt : (begin : S) → Alike Is Gives base 0 o (scan x.at begin (get_or part x.at 0))
        → ((m : ModeOf.Mode) (k : ℕ) → o ≡ Takes m k
        → next (stand_of x ks) (base + x.at) (get_or part x.at 0) ≡ standing m (due_at y) y.depth y.records (x.stored + k) ks)
        → ((n : ℕ) → Gives v n → y.stored ≡ x.stored + n) → Bounded (suc (base + x.at)) o
        → Bytes part → base + length part ≤ text_limit → ran scan x.at begin (drop x.at part) ≡ ended v y.at → Lands part x y
        → Leapt part base (stand_of x ks) x.at (stand_of y ks) y.at
    unfolding ran
    item_leapt begin a f g z bs s h l =
        let p = l.past in
        let w = l.within in
        let d = drop-cons part x.at 0 (omega arith) in
        record {
          same = go o (scan x.at begin (get_or part x.at 0)) a z f (ap (λ (t : List ℕ). ran scan x.at begin t) (sym d) ∙ h) d;
          behind = omega arith;
          within = omega arith;
          sane = lands_sane part base x y ks l;
        }
      where
        go : (o : OutOf.Out) (o' : Scan.Out S M) → Alike Is Gives base 0 o o' → Bounded (suc (base + x.at)) o
            → ((m : ModeOf.Mode) (k : ℕ) → o ≡ Takes m k
            → next (stand_of x ks) (base + x.at) (get_or part x.at 0) ≡ standing m (due_at y) y.depth y.records (x.stored + k) ks)
            → goes_on scan x.at (λ s'. ran scan (suc x.at) s' (drop (suc x.at) part)) o' ≡ ended v y.at
            → drop x.at part ≡ get_or part x.at 0 ∷ drop (suc x.at) part
            → walked (stand_of x ks) (base + x.at) (drop x.at part) ≡ walked (stand_of y ks) (base + y.at) (drop y.at part)
        go _ _ (takes {m = m} {s = s'} {k = k} i) z' f' e d =
            let p = l.past in
            let w = l.within in
            let n = length-drop (suc x.at) part in
            whole_then (drop (suc x.at) part) m k d (f' m k refl) g
            (item_passed (due_at y) y.depth y.records ks (drop (suc x.at) part) (suc x.at) m s' (0 + k) (x.stored + k) v y.at i
            (one_more base x.at m z'.0)
            (each_after part (suc x.at) bs) (omega arith) e (omega arith))
        go _ _ (stops {v = v'} i) z' f' e d = absurd (let z : x.at ≡ y.at = cc in omega (arith, l.past))
        go _ _ (breaks i) z' f' e d = absurd (let z : ◌≡◌ {A = ℕ} 0 1 = cc in omega arith)
