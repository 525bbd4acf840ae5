-- Words. Assumes nothing.
use mathlib.Core.Path.{◌≡◌, ◌∙◌}
use Prim.Native.Nat.{ℕ, ◌+◌, ◌≤◌, ◌<◌}
use mathlib.Core.List.{List}
use Rattle.std.specs.Prelude.{Ok, Err}
use lib.ListN.{length, get_or, drop, drop_of_length-le}
use lib.Seq.{drop-cons}
use native.Mathlib.Omega.{arith}
use native.Mathlib.Numerals.{add-one}
use borrow.Author.Tests.{eq-eqb, ne_eqb}
use Rattle.meaning.specs.declared.Refusal.TheVariants.{NotGrammar}
use Rattle.machine.specs.Scan.{over}
use Rattle.machine.specs.Names.{word_scan}
use Rattle.items.specs.Between.Places.{Runs}
use Rattle.items.specs.Between.Spelling.{WordSays}
use Rattle.items.proofs.PlacesLaws.{byte_in, byte_out, runs_by, broken_by, ended_by}

-- ---- words

-- i letters of the word have come
pub record Spelt (s : List ℕ) (p : ℕ) (word : List ℕ) (i : ℕ) : Type 0 where
  pub goes : Runs word_scan s word p (drop i word) (p + i)
  pub some : i ≤ length word
  pub within : p + i ≤ length s

module _ {s : List ℕ} {p : ℕ} {word : List ℕ} {i : ℕ} (t : Spelt s p word i) where
  pub spelt_whole : length word ≤ i → WordSays s p word (Ok (p + length word))
  unfolding word_scan
  spelt_whole h =
      let e : i ≡ length word = omega (arith, t.some) in (
        rw (← e) (t.goes ∙ ended_by word_scan s (drop i word) tt (p + i) (rw (drop_of_length-le word {i = i} h))),
        rw (← e) t.within,
      )

  module _ (l : i < length word) where
    pub spelt_end : length s ≤ p + i → get_or word i 0 < over → WordSays s p word (Err (record { place = p + i }))
    unfolding word_scan
    spelt_end h small = (
      t.goes ∙ broken_by word_scan s (drop i word) (NotGrammar (p + i)) (p + i)
          (let n : over ≡ get_or word i 0 → ⊥ = λ e. omega arith in rw (byte_out s (p + i) h, drop-cons word i 0 l) (simp (ne_eqb _ _ n))),
      t.within,
    )

    module _ (h : p + i < length s) where
      pub spelt_cut : (get_or s (p + i) 0 ≡ get_or word i 0 → ⊥) → WordSays s p word (Err (record { place = p + i }))
      unfolding word_scan
      spelt_cut n = (
        t.goes ∙ broken_by word_scan s (drop i word) (NotGrammar (p + i)) (p + i)
            (rw (byte_in s (p + i) h, drop-cons word i 0 l) (simp (ne_eqb _ _ n))),
        t.within,
      )

      pub spelt_more : get_or s (p + i) 0 ≡ get_or word i 0 → Spelt s p word (i + 1)
      unfolding word_scan
      spelt_more e = record {
        goes = t.goes ∙ runs_by word_scan s (drop i word) (drop (i + 1) word) (p + i) (p + (i + 1)) h (omega arith)
            (rw (byte_in s (p + i) h, drop-cons word i 0 l, add-one) (simp (eq-eqb _ _ e)));
        some = omega arith;
        within = omega arith;
      }
