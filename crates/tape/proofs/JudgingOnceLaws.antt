-- Well formed is formed, with no repeated key. Assumes nothing.
use mathlib.Core.Path.{◌≡◌, refl, sym, ap, ◌∙◌, subst}
use mathlib.Core.Bool.{Bool, true, false}
use mathlib.Core.List.{List, []}
use mathlib.Core.Option as maybe
use Rattle.std.proofs.Common.{Ok, Err, Option, is_some}
use Prim.Native.Nat.{ℕ, ◌*◌}
use native.Mathlib.Omega.{arith}
use lib.ListN.{length}
use Rattle.meaning.specs.declared.Record.{Record}
use Rattle.meaning.specs.Once.{once}
use Rattle.meaning.specs.Look.{whole_records, RecordAt}
use Rattle.meaning.specs.Tape.{records_of, WellFormed}
use Rattle.meaning.specs.Between.Events.{Event, first_repeat, erase, events}
use Rattle.meaning.proofs.Whole.{injective}
use Rattle.meaning.proofs.Look.{well_formed_record}
use Rattle.meaning.proofs.Events.{none_once, some_twice}
use Rattle.once.specs.Windows.{given}
use Rattle.rules.specs.Between.Tests.{Decides}
use Rattle.rules.proofs.TestsLaws.{failed}
use Rattle.meaning.specs.declared.Refusal.{Refusal}
use Rattle.tape.specs.Between.Judging.{Judges, well, ill, Formed}
use Rattle.tape.specs.Between.Key.{events_in, events_below, first_of, Shallow, Standing}
use Rattle.tape.specs.Between.Standing.{records_from}
use Rattle.tape.proofs.JudgingMachineLaws.{nay}
use Rattle.tape.proofs.JudgingWholeLaws.{read_is, verdict, formed_length, formed_records, nay_unformed}
use Rattle.tape.proofs.KeyEventsLaws.{events_are, records_shallow}

module _ {tape store : List ℕ} where
  unfoldable pub well_is_formed : WellFormed tape store → Formed tape store
  well_is_formed w = record {
    meaning = w.meaning;
    parts = w.good.parts;
    shallow = w.good.shallow;
    few = w.few;
    short = w.short;
    taped = w.taped;
    stored = w.stored;
    each = well_formed_record tape store w;
  }

  pub formed_well : (f : Formed tape store) → once f.meaning ≡ true → WellFormed tape store
  formed_well f e = record {
    meaning = f.meaning;
    good = record { parts = f.parts; shallow = f.shallow; single = e };
    few = f.few;
    short = f.short;
    taped = f.taped;
    stored = f.stored;
  }

  pub one_formed_meaning : (f g : Formed tape store) → f.meaning ≡ g.meaning
  one_formed_meaning f g =
      injective f.meaning g.meaning f.parts g.parts f.few g.few f.short (sym f.taped ∙ g.taped) (sym f.stored ∙ g.stored)

  -- ---- its records, and the first repeated key among them

  module _ (f : Formed tape store) where
    whole_length : length tape ≡ whole_records tape * 16
    whole_length = omega (arith, formed_length tape store f)

    records_are : records_from (whole_records tape) tape 0 ≡ records_of f.meaning 0 0
    records_are = formed_records tape store (whole_records tape) whole_length f

    pub formed_standing : Standing tape store (whole_records tape)
    formed_standing = record {
      few = omega (arith, formed_length tape store f, f.few);
      each = λ k l.
          let a = f.each k (omega (arith, formed_length tape store f)) in
          subst (RecordAt tape store k) (sym (read_is tape store k _ a)) a;
      shallow =
          subst (λ (l : List Record). Shallow l 0 []) (sym records_are) (records_shallow store f.meaning f.shallow f.stored);
    }

    erased_events : erase (events_below tape store (whole_records tape)) ≡ events f.meaning
    erased_events =
        ap (λ (l : List Record). erase (events_in store l 0 [])) records_are ∙ events_are store f.meaning f.shallow f.stored

    abbrev es : List Event
    es = events_below tape store (whole_records tape)

    pub none_repeats : is_some (first_of tape store (whole_records tape)) ≡ false → once f.meaning ≡ true
    none_repeats e = go (first_repeat [] es) refl e
      where
        go : (o : maybe.Option ℕ) → first_repeat [] es ≡ o → is_some (given o) ≡ false → once f.meaning ≡ true
        go maybe.none q z = none_once es f.meaning erased_events q
        go (maybe.some p) q z = let y : ◌≡◌ {A = ℕ} 0 1 = cc in absurd (omega arith)

    pub some_repeats : is_some (first_of tape store (whole_records tape)) ≡ true → once f.meaning ≡ false
    some_repeats n = go (first_repeat [] es) refl n
      where
        go : (o : maybe.Option ℕ) → first_repeat [] es ≡ o → is_some (given o) ≡ true → once f.meaning ≡ false
        go maybe.none q z = let y : ◌≡◌ {A = ℕ} 0 1 = cc in absurd (omega arith)
        go (maybe.some p) q z = some_twice es f.meaning p erased_events q

  -- ---- what is answered

  pub judged_unformed : {b : Bool} → Decides (Formed tape store) b → b ≡ false → Judges tape store (Err (Refusal.NotWellFormed 0))
  judged_unformed d e = ill (λ w. failed d e (well_is_formed w))

  pub judged_once : Formed tape store → {r : Option ℕ} → r ≡ first_of tape store (whole_records tape) → is_some r ≡ false → Judges tape store (Ok tt)
  judged_once f e z = well (formed_well f (none_repeats f (ap is_some (sym e) ∙ z)))

  pub judged_twice : Formed tape store → {r : Option ℕ} → r ≡ first_of tape store (whole_records tape) → is_some r ≡ true
      → Judges tape store (Err (Refusal.NotWellFormed 0))
  unfolding well_is_formed
  judged_twice f e n =
      ill
      (λ w.
      let s : once f.meaning ≡ true = ap once (one_formed_meaning f (well_is_formed w)) ∙ w.good.single in
      let t : once f.meaning ≡ false = some_repeats f (ap is_some (sym e) ∙ n) in
      let z : ◌≡◌ {A = ℕ} 0 1 = cc in omega arith)

-- where the machine says no, nothing is well formed
pub nay_ill : (tape store : List ℕ) (n : ℕ) → length tape ≡ n * 16 → verdict n tape store ≡ nay → WellFormed tape store → ⊥
nay_ill tape store n h e w = nay_unformed tape store n h e (well_is_formed w)
