-- The table of the keys that have come, over a container: what has been noted in it since the container opened, and what its end does. Assumes nothing.
use mathlib.Core.Path.{◌≡◌, refl, sym, ap, ◌∙◌, subst}
use mathlib.Core.Logic.{◌⊎◌, inl, inr}
use mathlib.Core.List.{List, [], ◌∷◌, ◌++◌, append_assoc, append-nil}
use Prim.Native.Nat.{ℕ, suc, ◌≤◌, ◌<◌}
use native.Mathlib.Omega.{arith}
use lib.ListN.{length, get_or}
use Rattle.meaning.specs.Between.Events.{Event, ends}
use Rattle.grammar.specs.Values.{Inside, elements, members}
use Rattle.machine.specs.Machine.{Bracket, square, curly}
use Rattle.once.specs.Groups.{Sane, Opens, Does, deeper, shallower}
use Rattle.once.specs.Windows.{Kept, level}
use Rattle.once.proofs.KeepingLaws.{keeps_sane, keeps_opens, keeps_further, goes_none, goes_join, goes_further, opens_on, closes_on}
use Rattle.once.proofs.WindowsLevelLaws.{level_join, passes_level}
use Rattle.reader.specs.Between.Repeat.{Keeping, Tabled, Led}
use Rattle.reader.specs.Between.Cursor.{Seen, opening_of, closing_of}

-- ---- a table, or none

no_number : (l : List ℕ) → length l ≡ 0 → get_or l 2 0 ≡ 0
no_number [] e = refl
no_number (x ∷ l) e = absurd (omega arith)

module _ (text : List ℕ) {seen : List ℕ} {at : ℕ} where
  pub seen_tabled : Seen text seen at → Tabled text seen at
  seen_tabled (inl e) = inl (omega arith)
  seen_tabled (inr h) = inr h

  pub seen_sane : Seen text seen at → Sane seen
  seen_sane (inl e) = inl (omega arith)
  seen_sane (inr h) = keeps_sane h.1.1

  pub seen_opens : Seen text seen at → Opens seen
  seen_opens (inl e) = (inl (omega arith), omega (arith, no_number seen e))
  seen_opens (inr h) = keeps_opens h.1.1

  pub seen_further : (at' : ℕ) → at ≤ at' → at' < 4294967295 → Seen text seen at → Seen text seen at'
  seen_further at' l m (inl e) = inl e
  seen_further at' l m (inr h) = inr (h.0, (h.1.0, keeps_further h.1.1 at' l m))

-- ---- a container opens

-- how many objects are open in it
abbrev pub in_deep : Bracket → ℕ → ℕ
in_deep square i = i
in_deep curly i = suc i

-- the table behind its opening bracket, or none
abbrev pub Entered : List ℕ → List ℕ → Bracket → ℕ → Type 0
Entered text seen b at = (length seen ≡ 0) ⊎ ((f : ℕ) × ((s : Kept) × Led text seen at f s (opening_of b)))

-- what its opening bracket does to the table
abbrev pub Opening : Bracket → List ℕ → List ℕ → Type 0
Opening square seen seen' = seen' ≡ seen
Opening curly seen seen' = Does deeper seen seen'

module _ (text seen seen' : List ℕ) {at at' : ℕ} (l : at < at') (m : at' < 4294967295) where
  pub opening_leads : (b : Bracket) → Opening b seen seen' → (f : ℕ) (s : Kept) → Keeping text seen at f s → Led text seen' at' f s (opening_of b)
  opening_leads square e f s h = subst (λ (z : List ℕ). Led text z at' f s []) (sym e) (goes_none (keeps_further h at' (omega arith) m))
  opening_leads curly d f s h = opens_on h at' (omega arith) m seen' d l

  pub opening_entered : (b : Bracket) → Opening b seen seen' → length seen' ≡ length seen → Seen text seen at → Entered text seen' b at'
  opening_entered b d e (inl z) = inl (e ∙ z)
  opening_entered b d e (inr h) = inr (h.0, (h.1.0, opening_leads b d h.0 h.1.0 h.1.1))

-- ---- what has been noted in it

pub record Noted (text seen₀ seen : List ℕ) (b : Bracket) (from at : ℕ) (keys : List Event) : Type 0 where
  pub entered : Entered text seen₀ b from
  pub long : length seen ≡ length seen₀
  pub leveled : (i : ℕ) → level (in_deep b i) keys ≡ in_deep b i
  pub leads : (f : ℕ) (s : Kept) → Led text seen₀ from f s (opening_of b) → Led text seen at f s (opening_of b ++ keys)

pub noted_none : {text seen : List ℕ} {b : Bracket} {at : ℕ} → Entered text seen b at → Noted text seen seen b at at []
unfolding level
noted_none {text} {seen} {b} {at} e = record {
  entered = e;
  long = refl;
  leveled = λ i. refl;
  leads = λ f s h. subst (Led text seen at f s) (sym (append-nil (opening_of b))) h;
}

front_level : (b : Bracket) (i : ℕ) (keys : List Event) → level i (opening_of b ++ keys) ≡ level (in_deep b i) keys
unfolding level
front_level square i keys = refl
front_level curly i keys = refl

deep_least : (b : Bracket) (i : ℕ) → in_deep b 0 ≤ in_deep b i
deep_least square i = omega arith
deep_least curly i = omega arith

module _ {text seen₀ seen : List ℕ} {b : Bracket} {from at : ℕ} {keys : List Event} (t : Noted text seen₀ seen b from at keys) where
  pub noted_seen : Seen text seen at
  noted_seen = go t.entered
    where
      go : Entered text seen₀ b from → Seen text seen at
      go (inl e) = inl (t.long ∙ e)
      go (inr h) = let g = t.leads h.0 h.1.0 h.1.1 in inr (h.0, (g.next, g.keeps))

  pub noted_sane : Sane seen
  noted_sane = seen_sane text noted_seen

  pub noted_further : (at' : ℕ) → at ≤ at' → at' < 4294967295 → Noted text seen₀ seen b from at' keys
  noted_further at' l m = record {
    entered = t.entered;
    long = t.long;
    leveled = t.leveled;
    leads = λ f s h. goes_further (t.leads f s h) at' l m;
  }

  -- where it is an object it is open
  open_there : (f : ℕ) (s : Kept) (h : Led text seen₀ from f s (opening_of b)) → in_deep b 0 ≤ length (t.leads f s h).next.keys
  open_there f s h =
      let n = passes_level (t.leads f s h).passes in
      let e = front_level b (length s.keys) keys in
      let i = t.leveled (length s.keys) in
      let j = deep_least b (length s.keys) in
      omega arith

  -- further events, which leave as many objects open
  pub noted_more : (es : List Event) (seen' : List ℕ) (at' : ℕ) → length seen' ≡ length seen → ((i : ℕ) → level i es ≡ i)
      → ((f : ℕ) (s : Kept) → Keeping text seen at f s → in_deep b 0 ≤ length s.keys → Led text seen' at' f s es)
      → Noted text seen₀ seen' b from at' (keys ++ es)
  noted_more es seen' at' e v w = record {
    entered = t.entered;
    long = e ∙ t.long;
    leveled = λ i. level_join (in_deep b i) keys es ∙ ap (λ (j : ℕ). level j es) (t.leveled i) ∙ v (in_deep b i);
    leads = λ f s h.
        let g = t.leads f s h in
        subst (Led text seen' at' f s) (append_assoc (opening_of b) keys es) (goes_join g (w f g.next g.keeps (open_there f s h)));
  }

-- ---- it closes

abbrev pub Of : Bracket → Inside → Type 0
Of square (elements x) = Unit {0}
Of square (members x) = ⊥
Of curly (elements x) = ⊥
Of curly (members x) = Unit {0}

-- what its closing bracket does to the table
abbrev pub Closing : Bracket → List ℕ → List ℕ → Type 0
Closing square seen seen' = seen' ≡ seen
Closing curly seen seen' = Does shallower seen seen'

module _ {text seen₀ seen : List ℕ} {from at : ℕ} {keys : List Event} where
  -- as many objects are open as before it
  pub closing_level : (b : Bracket) → Noted text seen₀ seen b from at keys → (y : Inside) → Of b y → (i : ℕ) → level i (opening_of b ++ (keys ++ closing_of y))
      ≡ i
  unfolding level
  closing_level square t (elements x) o i = level_join i keys [] ∙ t.leveled i
  closing_level square t (members x) o i = absurd o
  closing_level curly t (elements x) o i = absurd o
  closing_level curly t (members x) o i = level_join (suc i) keys (ends ∷ []) ∙ ap (λ (j : ℕ). level j (ends ∷ [])) (t.leveled i)

  pub closing_leads : (b : Bracket) → Noted text seen₀ seen b from at keys → (y : Inside) → Of b y → (seen' : List ℕ) (at' : ℕ) → Closing b seen seen'
      → at ≤ at' → at' < 4294967295 → (f : ℕ) (s : Kept) → Led text seen₀ from f s (opening_of b)
      → Led text seen' at' f s (opening_of b ++ (keys ++ closing_of y))
  closing_leads square t (elements x) o seen' at' e l m f s h =
      subst (λ (z : List ℕ). Led text z at' f s (keys ++ [])) (sym e)
      (subst (Led text seen at' f s) (sym (append-nil keys)) (goes_further (t.leads f s h) at' l m))
  closing_leads square t (members x) o seen' at' e l m f s h = absurd o
  closing_leads curly t (elements x) o seen' at' d l m f s h = absurd o
  closing_leads curly t (members x) o seen' at' d l m f s h =
      let g = t.leads f s h in
      goes_join g (closes_on g.keeps at' l m seen' d (open_there t f s h))
