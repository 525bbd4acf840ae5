-- Where the machine refuses a text, at a byte or at its end, there is a reason: 3, or an item fails its check. Assumes nothing.
use Prim.Native.Nat.{ℕ}
use mathlib.Core.Path.{◌≡◌, refl, sym, ap, ◌∙◌, subst}
use mathlib.Core.Logic.{inl}
use mathlib.Core.Option.{Option, none, some}
use mathlib.Core.List.{List, [], ◌∷◌, ◌++◌, append-nil}
use Rattle.rules.specs.Rfc3629.{Octets}
use Rattle.meaning.specs.declared.Refusal.{Refusal}
use Rattle.meaning.specs.Meaning.{Meaning}
use Rattle.machine.specs.Scan.{Out, takes, stops, breaks, over}
use Rattle.machine.specs.Machine
use Rattle.machine.specs.Machine.{Got, Base, want, want_key, want_string, want_binary, got, base, line, item, Frame, Conf, at, fail}
use Rattle.machine.specs.Machine.{finish, read, reading, lift, scan, as_value_of, Verdict, Ok, No}
use Rattle.machine.specs.Numeric
use Rattle.machine.specs.Strings
use Rattle.machine.specs.Binaries
use Rattle.machine.specs.Names
use Rattle.machine.proofs.Runs.{adv}
use Rattle.machine.proofs.Whole.{read_join}
use Rattle.machine.proofs.Refusals.Reason.{Reason, three}
use Rattle.machine.proofs.Refusals.Refuses.{init, after}
use Rattle.machine.proofs.Refusals.Confs.{ItemAt, ConfAt, Next}
use Rattle.machine.proofs.Refusals.Only.{Only, word_only, binary_only, name_only}
use Rattle.machine.proofs.Refusals.NumericFault.{numeric_breaks}
use Rattle.machine.proofs.Refusals.EscapeFault.{part_breaks}
use Rattle.machine.proofs.Refusals.Stuck.{stands}

module _ (t : List ℕ) (o : Octets t) where
  abbrev Explained : Verdict → Type 0
  Explained (Ok m) = Unit {0}
  Explained (No r) = Reason t r

  complete_so : (p : ℕ) (k : List Frame) (m : Option Meaning) → Explained (Machine.complete p k m)
  complete_so p k none = three p
  complete_so p [] (some m) = tt
  complete_so p (f ∷ k) (some m) = three p

  base_so : (p : ℕ) (k : List Frame) (s : Base) → Explained (Machine.end_base p k s)
  base_so p k want = three p
  base_so p k want_key = three p
  base_so p k (want_string z u) = three p
  base_so p k (want_binary u) = three p
  base_so p k (got g) = complete_so p k (as_value_of g)

  out_so : {X M : Type 0} (f : X → Machine.Item) (g : M → Got) (p : ℕ) (k : List Frame) (x : Out X M) → ((r : Refusal) → x ≡ breaks r → Reason t r)
      → Explained (Machine.end_out p k (lift f g x))
  out_so f g p k (takes s) h = three p
  out_so f g p k (stops v) h = complete_so p k (as_value_of (g v))
  out_so f g p k (breaks r) h = h r refl

  all_of : {r : Refusal} → Reason (t ++ []) r → Reason t r
  all_of {r} h = subst (λ (a : List ℕ). Reason a r) (append-nil t) h

  item_so : (p d : ℕ) (k : List Frame) (i : Machine.Item) → ItemAt p k d i t → Explained (Machine.end_out p k (scan p i over))
  item_so p d k (Machine.word w m) h =
      out_so (λ x. Machine.word x m) (λ x. Got.value m) p k (Names.word_scan p w over) (λ r e. inl (subst Only e (word_only p over w)))
  item_so p d k (Machine.numeric s) h =
      out_so Machine.numeric Got.value p k (Numeric.scan p s over) (λ r e. all_of (numeric_breaks p d k s t [] over r Next.end h e))
  item_so p d k (Machine.string_part z u s) h =
      out_so (Machine.string_part z u) (λ x. Got.string z (u ++ x)) p k (Strings.scan p s over)
      (λ r e. all_of (part_breaks p d k z u s t [] over r (subst Octets (sym (append-nil t)) o) h e))
  item_so p d k (Machine.binary_part u s) h =
      out_so (Machine.binary_part u) (λ x. Got.binary (u ++ x)) p k (Binaries.scan p s over) (λ r e. inl (subst Only e (binary_only p over s)))
  item_so p d k (Machine.identifier s) h = out_so Machine.identifier Got.key p k (Names.scan p s over) (λ r e. inl (subst Only e (name_only p over s)))

  end_so : (p : ℕ) (c : Conf) → ConfAt t p c t → Explained (finish p c)
  end_so p (fail r) h = h
  end_so p (at (base s) d k) h = base_so p k s
  end_so p (at (line s) d k) h = base_so p k s
  end_so p (at (Machine.slash s) d k) h = three p
  end_so p (at (Machine.block s) d k) h = three p
  end_so p (at (Machine.star s) d k) h = three p
  end_so p (at (item i) d k) h = item_so p d k i h

  -- where a byte failed, the run has failed
  pub reason : (r : Refusal) → reading t ≡ No r → Reason t r
  unfolding reading read
  reason r e =
      let f : read 0 init t ≡ finish (adv 0 t) (after t) = ap (read 0 init) (sym (append-nil t)) ∙ read_join 0 init t [] in
      subst Explained (sym f ∙ e) (end_so (adv 0 t) (after t) (stands t t [] (sym (append-nil t)) o))
