-- The tag of a key, a byte at a time. Assumes nothing.
use mathlib.Core.Path.{◌≡◌, refl, sym, ap, ◌∙◌, subst}
use mathlib.Core.Bool.{Bool, true, false}
use Rattle.std.specs.Prelude.{IfSome}
use Rattle.std.specs.Bool.{then_some}
use mathlib.Core.Logic.{◌⊎◌, inl, inr}
use mathlib.Core.List.{List, [], ◌∷◌, ◌++◌}
use Prim.Native.Nat.{ℕ, ◌+◌, ◌≤◌, ◌<◌}
use native.Mathlib.Omega.{arith}
use lib.ListN.{length, get_or}
use Rattle.meaning.specs.Letters.{ch}
use Rattle.machine.specs.Names
use Rattle.machine.specs.Machine.{class_of, colon_c}
use Rattle.once.specs.Hash.{seed, mix, finish, mixes}
use Rattle.once.proofs.HashLaws.{mixes_none, mixes_more, hash_done}
use Rattle.reader.specs.Between.Joined.{Alone}
use Rattle.reader.specs.Between.Spelling.{Spells}
use Rattle.reader.specs.Between.Repeat.{KeyIs, TagSays, ColonAtSays}
use Rattle.reader.specs.declared.spelling.Spelling.{Spelling}
use Rattle.reader.specs.declared.spelling.Spelt.{Spelt}
use Rattle.reader.proofs.SpellingHeardLaws.{parts_are}
use Rattle.reader.proofs.SpellingLaws.{opening_plain, quoted_byte, quoted_closes, name_over, name_stops, name_letter, name_figure, key_opens, key_names}

-- the bytes of the key at q so far make the tag h
pub record Tagging (text : List ℕ) (q salt : ℕ) (s : Spelling) (h : ℕ) : Type 0 where
  pub goes : (u : List ℕ) → KeyIs text q u → (e : List ℕ) × (Spells text s e u × (h ≡ mixes (seed salt) e))

module _ (text : List ℕ) (q salt : ℕ) where
  -- no byte
  pub tag_begins : (s : Spelling) (h : ℕ) → h ≡ seed salt → ((u : List ℕ) → KeyIs text q u → Spells text s [] u) → Tagging text q salt s h
  tag_begins s h e w = record { goes = λ u k. ([], (w u k, e ∙ sym (mixes_none (seed salt)))) }

  module _ (s : Spelling) (h : ℕ) (v : Tagging text q salt s h) where
    -- one more
    pub tag_more : (b : ℕ) (t : Spelling) (g : ℕ) → ((e u : List ℕ) → Spells text s e u → Spells text t (e ++ (b ∷ [])) u) → g ≡ mix h b
        → Tagging text q salt t g
    tag_more b t g w x = record {
      goes = λ u k.
          let y = v.goes u k in
          (y.0 ++ (b ∷ []), (w y.0 u y.1.0, x ∙ ap (λ (a : ℕ). mix a b) y.1.1 ∙ sym (mixes_more (seed salt) y.0 b)));
    }

    -- all of them
    pub tag_done : (r : ℕ) → ((e u : List ℕ) → Spells text s e u → e ≡ u) → r ≡ finish h → TagSays text q salt r
    tag_done r w x u k =
        let y = v.goes u k in
        x ∙ ap finish y.1.1 ∙ ap (λ (a : List ℕ). finish (mixes (seed salt) a)) (w y.0 u y.1.0) ∙ hash_done salt u

-- ---- a key in quotes

-- no part follows before a colon
colon_alone : (text : List ℕ) (p : ℕ) → p < length text → get_or text p 0 ≡ ch ":" → Alone text p p
colon_alone text p l e =
    let c : class_of (get_or text p 0) ≡ colon_c = rw e in
    record {
      goes = λ s d k. refl;
      onward = record { behind = omega arith; within = omega arith };
      bare = record {
        no_blank = λ m x. absurd (let z : ◌≡◌ {A = ℕ} 0 1 = cc in omega arith);
        no_hash = λ m x. absurd (let z : ◌≡◌ {A = ℕ} 0 1 = cc in omega arith);
        no_slash = λ m x. absurd (let z : ◌≡◌ {A = ℕ} 0 1 = cc in omega arith);
      };
      plusless = λ m x. absurd (let z : ◌≡◌ {A = ℕ} 0 1 = cc in omega arith);
    }

module _ (text : List ℕ) (q salt quote : ℕ) where
  pub plain_tag_begins : q < length text → get_or text q 0 ≡ quote → (quote ≡ ch "\"") ⊎ (quote ≡ ch "'") → q + 1 < length text
      → (get_or text (q + 1) 0 ≡ quote → ⊥)
      → (h : ℕ) → h ≡ seed salt → Tagging text q salt (Spelling.Quoted (q + 1) quote) h
  plain_tag_begins l d o m n h e =
      tag_begins text q salt (Spelling.Quoted (q + 1) quote) h e
      (λ u k. subst (λ (x : ℕ). Spells text (Spelling.Quoted (q + 1) x) [] u) d
      ((opening_plain text q l m (λ x. n (x ∙ d))).1 [] u (key_opens text q l (by o) u k)))
    where
      by : (quote ≡ ch "\"") ⊎ (quote ≡ ch "'") → (get_or text q 0 ≡ ch "\"") ⊎ (get_or text q 0 ≡ ch "'")
      by (inl x) = inl (d ∙ x)
      by (inr x) = inr (d ∙ x)

  module _ (small : quote < 256) (i h : ℕ) (v : Tagging text q salt (Spelling.Quoted i quote) h) (l : i < length text) (n : get_or text i 0 ≡ ch "\\" → ⊥) where
    pub plain_tag_more : (get_or text i 0 ≡ quote → ⊥) → (g : ℕ) → g ≡ mix h (get_or text i 0) → Tagging text q salt (Spelling.Quoted (i + 1) quote) g
    plain_tag_more d g x =
        tag_more text q salt (Spelling.Quoted i quote) h v (get_or text i 0) (Spelling.Quoted (i + 1) quote) g (quoted_byte text i quote small l n d).1 x

    pub plain_tag_done : get_or text i 0 ≡ quote → (c : Bool) → ColonAtSays text (i + 1) c → (r : ℕ) → r ≡ finish h
        → IfSome (then_some c r) (λ tag. TagSays text q salt tag)
    plain_tag_done d false w r x = tt
    plain_tag_done d true w r x =
        let y = w refl in
        tag_done text q salt (Spelling.Quoted i quote) h v r
        (quoted_closes text i quote small l n d Spelt.Over (λ e u m. parts_are text u e (i + 1) (i + 1) (colon_alone text (i + 1) y.0 y.1) m)) x

-- ---- an identifier

module _ (text : List ℕ) (q salt : ℕ) where
  pub name_tag_begins : q < length text → (get_or text q 0 ≡ ch "\"" → ⊥) → (get_or text q 0 ≡ ch "'" → ⊥) → (h : ℕ) → h ≡ seed salt
      → Tagging text q salt (Spelling.Name q) h
  name_tag_begins l i j h e = tag_begins text q salt (Spelling.Name q) h e (λ u k. key_names text q l i j u k)

  module _ (i h : ℕ) (v : Tagging text q salt (Spelling.Name i) h) where
    pub name_tag_over : length text ≤ i → (r : ℕ) → r ≡ finish h → TagSays text q salt r
    name_tag_over l r x = tag_done text q salt (Spelling.Name i) h v r (name_over text i l) x

    module _ (l : i < length text) where
      pub name_tag_done : Names.class_of (get_or text i 0) ≡ Names.neither → (r : ℕ) → r ≡ finish h → TagSays text q salt r
      name_tag_done c r x = tag_done text q salt (Spelling.Name i) h v r (name_stops text i l c) x

      pub name_tag_letter : Names.class_of (get_or text i 0) ≡ Names.letter → (g : ℕ) → g ≡ mix h (get_or text i 0)
          → Tagging text q salt (Spelling.Name (i + 1)) g
      name_tag_letter c g x = tag_more text q salt (Spelling.Name i) h v (get_or text i 0) (Spelling.Name (i + 1)) g (name_letter text i l c).1 x

      pub name_tag_figure : Names.class_of (get_or text i 0) ≡ Names.figure → (g : ℕ) → g ≡ mix h (get_or text i 0)
          → Tagging text q salt (Spelling.Name (i + 1)) g
      name_tag_figure c g x = tag_more text q salt (Spelling.Name i) h v (get_or text i 0) (Spelling.Name (i + 1)) g (name_figure text i l c).1 x
