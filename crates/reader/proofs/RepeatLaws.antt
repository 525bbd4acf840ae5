-- The search for a repeated key: two keys spelled side by side, the keys that are taken in one after the other, and what a further key does to the table.
-- Assumes nothing.
use mathlib.Core.Path.{◌≡◌, refl, sym, ap, ◌∙◌, subst}
use mathlib.Core.Bool.{Bool, true, false}
use mathlib.Core.Logic.{inl, inr}
use mathlib.Core.List.{List, [], ◌∷◌, ◌++◌}
use Prim.Native.Nat.{ℕ, ◌+◌, ◌≤◌, ◌<◌}
use native.Mathlib.Omega.{arith}
use lib.ListN.{length, length-append}
use Rattle.meaning.specs.Once.{same}
use Rattle.once.specs.Groups.{Names, Sane, Newest, Stands, Earlier, Placed, Tagged, FromIs}
use Rattle.once.specs.Windows.{Kept}
use Rattle.once.specs.Hash.{hash_of}
use Rattle.once.proofs.KeepingLaws.{keeps_sane, keeps_since, keeps_from, names_on, before_on}
use Rattle.once.proofs.KeepingSeekLaws.{same_self, apart, Sought, seek_begins, seek_stands, seek_key, seek_finds, seek_falls, seek_past, seek_past_tag}
use Rattle.once.proofs.KeepingSeekLaws.{seek_ends}
use Rattle.reader.specs.Between.Spelling.{InText, Spells, LetterSays}
use Rattle.reader.specs.Between.Repeat.{KeyIs, AtKey, Keeping, Tabled, OverSays, SameSays, TagSays, Seeks, RepeatSays, NoteSays}
use Rattle.reader.specs.declared.spelling.Spelling.{Spelling}
use Rattle.std.specs.Prelude.{Option, Some, None, is_some, not, unwrap_or}
use Rattle.reader.proofs.SpellingGivenLaws.{Front, spells_front}

-- ---- two keys, side by side

-- with a byte more than e
longer : (e u : List ℕ) (x : ℕ) → Front (e ++ (x ∷ [])) u → length e < length u
longer e u x (w, z) = omega (arith, ap length z, length-append (e ++ (x ∷ [])) w, length-append e (x ∷ []))

-- behind the same bytes, another byte
other : (e v w : List ℕ) (x y : ℕ) → (e ++ (x ∷ [])) ++ v ≡ (e ++ (y ∷ [])) ++ w → x ≡ y
other [] v w x y z = cc
other (a ∷ e) v w x y z = let i : (e ++ (x ∷ [])) ++ v ≡ (e ++ (y ∷ [])) ++ w = cc in other e v w x y i

module _ (text : List ℕ) where
  -- over where no byte comes
  pub over_is : (s : Spelling) (r : Option (ℕ × Spelling)) (b : Bool) → is_some r ≡ not b → LetterSays text s r → OverSays text s b
  over_is s None true i w e u h = sym (ap (same e) (sym (w e u h)) ∙ same_self e)
  over_is s None false i w e u h = absurd (let z : ◌≡◌ {A = ℕ} 0 1 = cc in omega arith)
  over_is s (Some (b, t)) true i w e u h = absurd (let z : ◌≡◌ {A = ℕ} 0 1 = cc in omega arith)
  over_is s (Some (b, t)) false i w e u h =
      sym (apart e u (λ z. omega (arith, ap length z, longer e u b (spells_front text t (e ++ (b ∷ [])) u (w.1 e u h)))))

abbrev Begins : List ℕ → ℕ → Spelling → Type 0
Begins text a s = InText text s × ((u : List ℕ) → KeyIs text a u → Spells text s [] u)

-- the same bytes have been given of each
abbrev Beside : List ℕ → Spelling → Spelling → List ℕ → List ℕ → Type 0
Beside text s t u v = (e : List ℕ) × (Spells text s e u × Spells text t e v)

-- alike so far
pub record Comparing (text : List ℕ) (a b : ℕ) (s t : Spelling) : Type 0 where
  pub left : InText text s
  pub right : InText text t
  pub goes : (u v : List ℕ) → KeyIs text a u → KeyIs text b v → Beside text s t u v

module _ (text : List ℕ) (a b : ℕ) (s t : Spelling) where
  pub compare_begins : Begins text a s → Begins text b t → Comparing text a b s t
  compare_begins f g = record {
    left = f.0;
    right = g.0;
    goes = λ u v i j. ([], (f.1 u i, g.1 v j));
  }

  module _ (c : Comparing text a b s t) where
    pub compare_over : LetterSays text s None → (r : Bool) → OverSays text t r → SameSays text a b r
    compare_over w r o u v i j =
        let y = c.goes u v i j in
        o y.0 v y.1.1 ∙ ap (λ (d : List ℕ). same d v) (w y.0 u y.1.0)

    module _ (x : ℕ) (s' : Spelling) (m : LetterSays text s (Some (x, s'))) where
      -- u begins with e and x
      front : (e u : List ℕ) → Spells text s e u → Front (e ++ (x ∷ [])) u
      front e u h = spells_front text s' (e ++ (x ∷ [])) u (m.1 e u h)

      pub compare_longer : LetterSays text t None → SameSays text a b false
      compare_longer w u v i j =
          let y = c.goes u v i j in
          sym (apart u v (λ z. omega (arith, ap length z, ap length (w y.0 v y.1.1), longer y.0 u x (front y.0 u y.1.0))))

      module _ (y : ℕ) (t' : Spelling) (n : LetterSays text t (Some (y, t'))) where
        pub compare_apart : (x ≡ y → ⊥) → SameSays text a b false
        compare_apart d u v i j =
            let k = c.goes u v i j in
            let l = front k.0 u k.1.0 in
            let r = spells_front text t' (k.0 ++ (y ∷ [])) v (n.1 k.0 v k.1.1) in
            sym (apart u v (λ z. d (other k.0 l.0 r.0 x y (sym l.1 ∙ z ∙ r.1))))

        go_on : x ≡ y → (u v : List ℕ) → KeyIs text a u → KeyIs text b v → Beside text s' t' u v
        go_on e u v i j =
            let k = c.goes u v i j in
            (k.0 ++ (x ∷ []), (m.1 k.0 u k.1.0, subst (λ (b : ℕ). Spells text t' (k.0 ++ (b ∷ [])) v) (sym e) (n.1 k.0 v k.1.1)))

        pub compare_more : x ≡ y → Comparing text a b s' t'
        compare_more e = record { left = m.0.within; right = n.0.within; goes = go_on e }

-- ---- the keys that are taken in, one after the other

-- the search at the slot i
pub record Seeking (text seen : List ℕ) (q tag : ℕ) (i : Option ℕ) : Type 0 where
  pub goes : (f : ℕ) (u : List ℕ) → KeyIs text q u → tag ≡ hash_of f u → Sought (KeyIs text) (hash_of f) seen q f u i

module _ (text seen : List ℕ) (q tag : ℕ) (w : Seeks text seen q tag) where
  -- the table's window, whatever it is called
  tag_is : {f : ℕ} {s : Kept} → Keeping text seen q f s → (u : List ℕ) → KeyIs text q u → tag ≡ hash_of f u
  tag_is h u k = w.1.1.1.1 u k ∙ ap (λ (g : ℕ). hash_of g u) (sym (keeps_since w.1.1.1.0) ∙ keeps_since h)

  pub seeks_sane : Sane seen
  seeks_sane = keeps_sane w.1.1.1.0

  pub seeking_begins : (i : Option ℕ) → Newest seen tag i → Seeking text seen q tag i
  seeking_begins i n = record { goes = λ f u k e. seek_begins tag i e n }

  pub seeking_ends : Seeking text seen q tag None → RepeatSays text seen q false
  seeking_ends v f s h u k = sym (seek_ends (v.goes f u k (tag_is h u k)) s h)

  module _ (i : ℕ) (v : Seeking text seen q tag (Some i)) where
    -- for the key that is there
    sought : Sought (KeyIs text) (hash_of w.1.0) seen q w.1.0 w.0.u (Some i)
    sought = v.goes w.1.0 w.0.u w.0.is (w.1.1.1.1 w.0.u w.0.is)

    pub seeking_stands : Stands seen i
    seeking_stands = seek_stands sought w.1.1.1.0

    pub seeking_before : (p : ℕ) → Placed seen i p → p < q
    seeking_before p g = (seek_key sought w.1.1.1.0 p g).1.1

    pub seeking_inside : (p : ℕ) → Placed seen i p → (q < length text) × (p < length text)
    seeking_inside p g = (w.0.inside, omega (arith, seeking_before p g, w.0.inside))

    pub seeking_finds : (p : ℕ) → Placed seen i p → (r : Bool) → SameSays text q p r → r ≡ true → RepeatSays text seen q true
    seeking_finds p g r c e f s h u k = sym (seek_finds (v.goes f u k (tag_is h u k)) p g (λ x y. sym (c u x k y) ∙ e) s h)

    pub seeking_falls : (j : Option ℕ) → Earlier seen i j → unwrap_or j 0 < i
    seeking_falls j b = seek_falls sought w.1.1.1.0 j b

    pub seeking_past_tag : (t : ℕ) (j : Option ℕ) → Tagged seen i t → (t ≡ tag → ⊥) → Earlier seen i j → Seeking text seen q tag j
    seeking_past_tag t j g n b = record { goes = λ f u k e. seek_past_tag (v.goes f u k e) tag t e g n j b }

    pub seeking_past : (p : ℕ) (j : Option ℕ) (r : Bool) → Placed seen i p → SameSays text q p r → r ≡ false → Earlier seen i j → Seeking text seen q tag j
    seeking_past p j r g c n b = record { goes = λ f u k e. seek_past (v.goes f u k e) p g (λ x y. sym (c u x k y) ∙ n) j b }

-- ---- a further key

module _ (text seen : List ℕ) (q : ℕ) (k : AtKey text q) where
  pub note_none : length seen < 12 → NoteSays text seen seen q
  note_none l = record { long = refl; leads = λ f s h o u i. absurd (omega (arith, h.roomy)) }

  module _ (from : ℕ) (g : FromIs seen from) where
    pub note_before : q < from → NoteSays text seen seen q
    note_before l = record {
      long = refl;
      leads = λ f s h o u i. before_on h (q + 1) (omega arith) (omega (arith, k.inside, k.short)) q u (omega (arith, keeps_from h from g)) o;
    }

    module _ (w : Tabled text seen q) (l : 12 ≤ length seen) where
      table : (f : ℕ) × ((s : Kept) × Keeping text seen q f s)
      table = by w
        where
          by : Tabled text seen q → (f : ℕ) × ((s : Kept) × Keeping text seen q f s)
          by (inl x) = absurd (omega arith)
          by (inr x) = x

      pub note_sane : Sane seen
      note_sane = keeps_sane table.1.1

      pub note_seeks : (tag : ℕ) → TagSays text q from tag → Seeks text seen q tag
      note_seeks tag t =
          let x = table in
          (k, (x.0, (x.1.0, (x.1.1, λ u i. t u i ∙ ap (λ (f : ℕ). hash_of f u) (keeps_from x.1.1 from g)))))

      pub note_named : from ≤ q → (tag : ℕ) → TagSays text q from tag → (r : Bool) → RepeatSays text seen q r → (seen' : List ℕ)
          → Names r (q, tag) seen seen' → NoteSays text seen seen' q
      note_named m tag t r a seen' d = record {
        long = d.1.1.0;
        leads = λ f s h o u i.
            let y = keeps_from h from g in
            names_on h (q + 1) (omega arith) (omega (arith, k.inside, k.short)) seen' q u r
            (subst (λ (x : ℕ). Names r (q, x) seen seen') (t u i ∙ ap (λ (x : ℕ). hash_of x u) y) d)
            (a f s h u i) i (omega arith) (omega arith) o;
      }
