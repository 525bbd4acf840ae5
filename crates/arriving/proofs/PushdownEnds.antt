-- Where the text ends the check answers what the machine does; so it does for every text. Assumes nothing.
use Prim.Native.Nat.{ℕ, suc, ◌+◌, ◌≤◌, ◌<◌}
use mathlib.Core.Path.{◌≡◌, refl, sym, ap, ◌∙◌}
use mathlib.Core.Bool.{true, cond}
use mathlib.Core.Option.{Option}
use Rattle.std.specs.Prelude.{Err}
use mathlib.Core.List.{List, [], ◌∷◌}
use native.Mathlib.Omega.{arith}
use lib.Dec.{eqb}
use lib.ListN.{length}
use borrow.Author.Tests.{eq-eqb, ne_eqb}
use Rattle.rules.proofs.Characters.{Each, all_more}
use Rattle.meaning.specs.Limits.{text_limit}
use Rattle.meaning.specs.Meaning.{Meaning}
use Rattle.meaning.specs.Tape.{records, bytes}
use Rattle.meaning.specs.declared.Refusal.TheVariants.{NotGrammar}
use Rattle.machine.specs.Scan as Scan
use Rattle.machine.specs.Machine as Machine
use Rattle.machine.specs.Machine.{as_value, as_key, Item, Got, value, key, string, binary, Base, want, want_key, want_string, want_binary, got}
use Rattle.machine.specs.Machine.{Frame, Conf, finish, read, Verdict}
use Rattle.reader.specs.Answers.{Answer, counts}
use Rattle.arriving.specs.declared.states.Due.{Due}
use Rattle.arriving.specs.declared.states.Mode.{Mode}
use Rattle.arriving.specs.declared.states.Here.{Here}
use Rattle.arriving.specs.declared.states.Out.{Out}
use Rattle.arriving.specs.Between.Steps.{Stand, here_of, walked}
use Rattle.arriving.specs.Between.Arriving.{sane_here, complete, end_out, end_mode}
use Rattle.arriving.proofs.Alike.{Alike}
use Rattle.arriving.proofs.StepsLaws.{next_sane}
use Rattle.arriving.proofs.PushdownModes.{InNumber, spelling, counting, timing, numeric_mode, InString, quoting, string_mode}
use Rattle.arriving.proofs.PushdownModes.{InBinary, packing, binary_mode, InName, naming, name_mode}
use Rattle.arriving.proofs.PushdownItems.{got_due, got_records, got_bytes, GotIs, ItemIs, word_is, numeric_is, string_is, binary_is, name_is}
use Rattle.arriving.proofs.PushdownItems.{item_next, item_end}
use Rattle.arriving.proofs.PushdownFrames.{Held, held_as}
use Rattle.arriving.proofs.PushdownStands.{base_due, base_records, base_bytes, Stands, failed, at_base_lem, at_slash, at_line, at_block, at_star, at_item}
use Rattle.arriving.proofs.PushdownStands.{moved_none, sane_mode_lem, item_here, step_stands, string_sizes, binary_sizes}

-- what a verdict is as an answer
abbrev pub answer_of : Verdict → Answer
answer_of (Machine.Ok m) = counts (records m) (bytes m)
answer_of (Machine.No r) = Err r

module _ (p : ℕ) {n r t : ℕ} {ks : List ℕ} {d : ℕ} where
  -- after a value
  value_ends : (k : List Frame) (m : Meaning) → Held n r t ks d k (records m) (bytes m)
      → cond (eqb n 0) (counts r t) (Err (NotGrammar p)) ≡ answer_of (Machine.complete p k (Option.some m))
  value_ends [] m h =
      let e : r ≡ records m = omega (arith, h.count) in
      let f : t ≡ bytes m = omega (arith, h.stored) in
      rw (eq-eqb n 0 h.depth) (cc)
  value_ends (f ∷ k) m h = rw (ne_eqb n 0 (λ (e : n ≡ 0). omega (arith, h.depth))) refl

  got_ends : (m : Mode) (k : List Frame) (g : Got) → Held n r t ks d k (got_records g) (got_bytes g)
      → complete (here_of m (got_due g) n r t) p ≡ answer_of (Machine.end_base p k (got g))
  unfolding complete
  got_ends o k (value m) h = value_ends k m h
  got_ends o k (key u) h = refl
  got_ends o k (string as_value u) h = value_ends k (Meaning.string u) (held_as (string_sizes u).0 (string_sizes u).1 h)
  got_ends o k (string as_key u) h = refl
  got_ends o k (binary u) h = value_ends k (Meaning.binary u) (held_as (binary_sizes u).0 (binary_sizes u).1 h)

  base_ends : (m : Mode) (k : List Frame) (s : Base) → Held n r t ks d k (base_records s) (base_bytes s)
      → complete (here_of m (base_due s) n r t) p ≡ answer_of (Machine.end_base p k s)
  unfolding complete
  base_ends o k want h = refl
  base_ends o k want_key h = refl
  base_ends o k (want_string as_value u) h = refl
  base_ends o k (want_string as_key u) h = refl
  base_ends o k (want_binary u) h = refl
  base_ends o k (got g) h = got_ends o k g h

  out_ends : (m : Mode) (k : List Frame) {u : Due} {e : ℕ} {out : Out} {out' : Scan.Out Item Got} → Alike (ItemIs 0 u) (GotIs u) 0 e out out'
      → Held n r t ks d k 1 e → end_out (here_of m u n r t) p out ≡ answer_of (Machine.end_out p k out')
  unfolding end_out
  out_ends m k (Alike.takes i) h = refl
  out_ends m k (Alike.stops {v = g} w) h =
      ap (λ (q : Due). complete (here_of m q n r t) p) w.due ∙ got_ends m k g (held_as w.one w.size h)
  out_ends m k (Alike.breaks {r = why} e) h = ap Err (e ∙ moved_none why)

-- the mode is an item's
mode_ended : {base : ℕ} {u : Due} {m : Mode} {i : Item} {e : ℕ} (h : Here) (p : ℕ) → ItemIs base u m i e → end_mode h p m ≡ end_out h p (item_next m p 0)
unfolding end_mode
mode_ended x p (word_is h z r q) = refl
mode_ended x p (numeric_is h) = go (numeric_mode h)
  where
    go : {m : Mode} → InNumber m → end_mode x p m ≡ end_out x p (item_next m p 0)
    go spelling = refl
    go counting = refl
    go timing = refl
mode_ended x p (string_is d e h) = go (string_mode h)
  where
    go : {m : Mode} → InString m → end_mode x p m ≡ end_out x p (item_next m p 0)
    go quoting = refl
mode_ended x p (binary_is e h) = go (binary_mode h)
  where
    go : {m : Mode} → InBinary m → end_mode x p m ≡ end_out x p (item_next m p 0)
    go packing = refl
mode_ended x p (name_is h) = go (name_mode h)
  where
    go : {m : Mode} → InName m → end_mode x p m ≡ end_out x p (item_next m p 0)
    go naming = refl

-- the text's end gives the same
pub end_stands : {x : Stand} {c : Conf} (p : ℕ) → Stands x c → p ≤ text_limit → sane_here p x.0 ≡ true → end_mode x.0 p x.0.mode ≡ answer_of (finish p c)
unfolding end_mode
end_stands p (failed {x = x} e) l g = ap (end_mode x.0 p) e
end_stands p (at_base_lem {k = k} {s = s} h o) l g = base_ends p Mode.At k s h
end_stands p (at_slash h o) l g = refl
end_stands p (at_line {k = k} {s = s} h o) l g = base_ends p Mode.Line k s h
end_stands p (at_block h o) l g = refl
end_stands p (at_star h o) l g = refl
end_stands p (at_item {m = m} {u = u} {n = n} {r = r} {t = t} {k = k} {i = i} {e = e} w h o) l g =
    mode_ended (here_of m u n r t) p w ∙ out_ends p m k (item_here u m i e p 0 w (omega arith) l (sane_mode_lem p (here_of m u n r t) g)) h ∙
    ap (λ q. answer_of (Machine.end_out p k q)) (sym (item_end p w))

-- the bytes t from the place p on, and then the end
pub walk_stands : (t : List ℕ) {x : Stand} {c : Conf} (p : ℕ) → Stands x c → Each (λ (b : ℕ). b < 256) t → p + length t ≤ text_limit
    → sane_here p x.0 ≡ true → end_mode (walked x p t).0 (p + length t) (walked x p t).0.mode ≡ answer_of (read p c t)
unfolding walked read
walk_stands [] {x} p h a l g = let e : p + 0 ≡ p = omega arith in rw e (end_stands p h (omega arith) g)
walk_stands (b ∷ t) {x} {c} p h (all_more q a) l g =
    let e : p + suc (length t) ≡ suc p + length t = omega arith in
    rw e (walk_stands t (suc p) (step_stands p b h q (omega arith) g) a (omega arith) (next_sane x p b g))
