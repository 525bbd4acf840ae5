-- A text in parts, cut anywhere: the check's answer is the machine's verdict on the parts joined, and so what `measure` may answer, with 15
-- left out. Assumes nothing.
use Prim.Native.Nat.{ℕ, suc, ◌+◌, ◌-◌, ◌≤◌, ◌<◌}
use mathlib.Core.Path.{◌≡◌, refl, sym, ap, ◌∙◌}
use mathlib.Core.Bool.{Bool, true, false, cond}
use mathlib.Core.List.{List, [], ◌∷◌, ◌++◌, append_assoc, append-nil}
use native.Mathlib.Omega.{arith}
use lib.Dec.{eqb, leb}
use lib.ListN.{length, length-append, length-replicate, replicate}
use borrow.Author.Tests.{le-leb, lt-leb, leb-true, leb-false}
use Rattle.std.specs.Prelude.{Result, Ok, Err}
use Rattle.rules.specs.declared.IllFormed.{IllFormed}
use Rattle.rules.specs.Between.Decided.{judged}
use Rattle.rules.proofs.Characters.{Each}
use Rattle.meaning.specs.Limits.{text_limit, depth_limit}
use Rattle.meaning.specs.declared.Refusal.TheVariants.{TextTooLong, NotUtf8}
use Rattle.machine.specs.Machine.{want, base, at, reading, Verdict}
use Rattle.machine.specs.Machine as Machine
use Rattle.machine.specs.Verdict.{decoded, verdict}
use Rattle.machine.proofs.Whole.{sound}
use Rattle.machine.proofs.Refusals.Whole.{loose_refusals}
use Rattle.reader.specs.Answers.{Answer, Loosely, answer_said}
use Rattle.arriving.specs.declared.Check.{Check}
use Rattle.arriving.specs.declared.octets.Utf.{Utf}
use Rattle.arriving.specs.declared.states.Due.TheVariants as Due
use Rattle.arriving.specs.declared.states.Mode.TheVariants as Mode
use Rattle.arriving.specs.Between.Octets.{between, fed_utf}
use Rattle.arriving.specs.Between.Steps.{Stand, here_of, next, walked}
use Rattle.arriving.specs.Between.Arriving.{core_of, check_of, started, spent, sane_mode, sane_here, sane, grown, fed, feds, end_mode, ended_core}
use Rattle.arriving.specs.Between.Arriving.{ended, joined}
use Rattle.arriving.proofs.OctetsLaws.{ill_at, said, octets_judged, fed_join}
use Rattle.arriving.proofs.StepsLaws.{next_sane, walked_join}
use Rattle.arriving.proofs.PushdownFrames.{held_none}
use Rattle.arriving.proofs.PushdownStands.{Stands, at_base_lem}
use Rattle.arriving.proofs.PushdownEnds.{answer_of, walk_stands}

-- ---- the state after the bytes s, however they came

abbrev pub start : Stand
start = (here_of Mode.At Due.Value 0 0 0, replicate depth_limit 0)

abbrev pub stood : List ℕ → Stand
stood s = walked start 0 s

abbrev pub after : List ℕ → Check
after s = check_of (core_of (length s) (fed_utf between 0 s) (stood s).0) (stood s).1

started_after : started ≡ after []
unfolding walked fed_utf
started_after = refl

start_stands : Stands start (at (base want) depth_limit [])
start_stands = at_base_lem {s = want} (held_none (replicate depth_limit 0) (length-replicate depth_limit 0)) tt

-- ---- its bounds

walked_sane : (t : List ℕ) (x : Stand) (p : ℕ) → sane_here p x.0 ≡ true → sane_here (p + length t) (walked x p t).0 ≡ true
unfolding walked
walked_sane [] x p h = let e : p + 0 ≡ p = omega arith in rw e h
walked_sane (b ∷ t) x p h =
    let e : p + suc (length t) ≡ suc p + length t = omega arith in
    rw e (walked_sane t (next x p b) (suc p) (next_sane x p b h))

start_sane : sane_here 0 start.0 ≡ true
unfolding sane_here sane_mode depth_limit
start_sane = refl

after_sane : (s : List ℕ) → length s ≤ text_limit → sane (after s).core ≡ true
unfolding sane
after_sane s l =
    let e : 0 + length s ≡ length s = omega arith in
    rw (le-leb (length s) text_limit l) (rw e at (walked_sane s start 0 start_sane))

-- ---- a part

joined_check : (s t : List ℕ) → grown (after s).core t (walked (stood s) (length s) t) ≡ after (s ++ t)
joined_check s t =
    let e : 0 + length s ≡ length s = omega arith in
    let n : length s + length t ≡ length (s ++ t) = sym (length-append s t) in
    let u : fed_utf (fed_utf between 0 s) (length s) t ≡ fed_utf between 0 (s ++ t) =
    sym (fed_join between 0 s t ∙ ap (λ (p : ℕ). fed_utf (fed_utf between 0 s) p t) e) in
    let y : walked (stood s) (length s) t ≡ stood (s ++ t) = sym (walked_join start 0 s t ∙ ap (λ (p : ℕ). walked (stood s) p t) e) in
    λ i. check_of (core_of (n i) (u i) (y i).0) (y i).1

fed_more : (s t : List ℕ) → length s + length t ≤ text_limit → fed (after s) t ≡ after (s ++ t)
unfolding fed
fed_more s t l = rw (after_sane s (omega arith), le-leb (length t) (text_limit - length s) (omega arith)) (joined_check s t)

fed_over : (s t : List ℕ) → length s ≤ text_limit → text_limit < length s + length t → fed (after s) t ≡ spent
unfolding fed
fed_over s t l h = rw (after_sane s l, lt-leb (length t) (text_limit - length s) (omega arith)) refl

fed_spent : (t : List ℕ) → fed spent t ≡ spent
unfolding fed sane
fed_spent t = refl

-- ---- parts

feds_spent : (ps : List (List ℕ)) → feds spent ps ≡ spent
unfolding feds
feds_spent [] = refl
feds_spent (t ∷ ps) = ap (λ (x : Check). feds x ps) (fed_spent t) ∙ feds_spent ps

-- all bytes so far, or too many
abbrev pub came : List ℕ → Check
came s = cond (leb (length s) text_limit) (after s) spent

feds_came : (ps : List (List ℕ)) (s : List ℕ) → length s ≤ text_limit → feds (after s) ps ≡ came (s ++ joined ps)
unfolding feds
feds_came [] s l = rw (append-nil, le-leb (length s) text_limit l) refl
feds_came (t ∷ ps) s l = go (leb (length s + length t) text_limit) refl (feds_came ps (s ++ t))
  where
    go : (x : Bool) → leb (length s + length t) text_limit ≡ x → (length (s ++ t) ≤ text_limit → feds (after (s ++ t)) ps ≡ came ((s ++ t) ++ joined ps))
        → feds (fed (after s) t) ps ≡ came (s ++ (t ++ joined ps))
    go true e more =
        let h : length s + length t ≤ text_limit = leb-true _ _ e in
        ap (λ (c : Check). feds c ps) (fed_more s t h) ∙ more (omega (arith, length-append s t)) ∙ ap came (append_assoc s t (joined ps))
    go false e more =
        let h : text_limit < length s + length t = leb-false _ _ e in
        let w : text_limit < length (s ++ (t ++ joined ps)) = omega (arith, length-append s (t ++ joined ps), length-append t (joined ps)) in
        ap (λ (c : Check). feds c ps) (fed_over s t l h) ∙ feds_spent ps ∙ rw (lt-leb (length (s ++ (t ++ joined ps))) text_limit w) refl

-- from the start on
pub feds_joined : (ps : List (List ℕ)) → feds started ps ≡ came (joined ps)
feds_joined ps = ap (λ (c : Check). feds c ps) started_after ∙ feds_came ps [] (omega arith)

-- where the text is cut makes no difference
pub any_cut : (ps qs : List (List ℕ)) → joined ps ≡ joined qs → feds started ps ≡ feds started qs
any_cut ps qs e = feds_joined ps ∙ ap came e ∙ sym (feds_joined qs)

-- ---- the end

-- 2 in front of what the grammar comes to
abbrev judged_to : Result (Unit {0}) IllFormed → Answer → Answer
judged_to (Ok v) a = a
judged_to (Err e) a = Err (NotUtf8 e.place)

octets_first : (u : Utf) (a : Answer)
    → cond u.broken (Err (NotUtf8 u.first)) (cond (eqb u.left 0) a (Err (NotUtf8 u.first))) ≡ judged_to (said u) a
octets_first u a = go u.broken (eqb u.left 0)
  where
    go : (x y : Bool) → cond x (Err (NotUtf8 u.first)) (cond y a (Err (NotUtf8 u.first)))
        ≡ judged_to (cond x (ill_at u.first) (cond y (Ok tt) (ill_at u.first))) a
    go true y = refl
    go false true = refl
    go false false = refl

judged_answer : (t : List ℕ) (x : Result (Unit {0}) IllFormed) → judged_to x (answer_of (reading t)) ≡ answer_of (decoded x t)
unfolding decoded
judged_answer t (Ok v) = refl
judged_answer t (Err e) = refl

module _ (s : List ℕ) (small : Each (λ (b : ℕ). b < 256) s) (l : length s ≤ text_limit) where
  grammar_ends : end_mode (stood s).0 (length s) (stood s).0.mode ≡ answer_of (reading s)
  unfolding reading
  grammar_ends = let e : 0 + length s ≡ length s = omega arith in rw e at (walk_stands s 0 start_stands small (omega arith) start_sane)

  after_ends : ended (after s) ≡ answer_of (decoded (judged s) s)
  unfolding ended_core
  after_ends =
      rw (after_sane s l)
      (octets_first (fed_utf between 0 s) (end_mode (stood s).0 (length s) (stood s).0.mode) ∙
      ap (λ (a : Result (Unit {0}) IllFormed). judged_to a (end_mode (stood s).0 (length s) (stood s).0.mode)) (octets_judged s) ∙
      ap (judged_to (judged s)) grammar_ends ∙ judged_answer s (judged s))

spent_ends : ended spent ≡ Err TextTooLong
unfolding ended_core sane
spent_ends = refl

came_ends : (t : List ℕ) → Each (λ (b : ℕ). b < 256) t → ended (came t) ≡ answer_of (verdict t)
unfolding verdict
came_ends t small = go (leb (length t) text_limit) refl
  where
    go : (x : Bool) → leb (length t) text_limit ≡ x → ended (cond x (after t) spent) ≡ answer_of (cond x (decoded (judged t) t) (Machine.No TextTooLong))
    go true e = after_ends t small (leb-true _ _ e)
    go false e = spent_ends

-- ---- the whole

-- what a check comes to is what the machine comes to on the parts joined
pub checked : (ps : List (List ℕ)) → Each (λ (b : ℕ). b < 256) (joined ps) → ended (feds started ps) ≡ answer_of (verdict (joined ps))
checked ps small = ap ended (feds_joined ps) ∙ came_ends (joined ps) small

-- and so what `measure` may answer for them, with 15 left out
pub checked_loosely : (ps : List (List ℕ)) → Each (λ (b : ℕ). b < 256) (joined ps) → Loosely (joined ps) (ended (feds started ps))
checked_loosely ps small = go (verdict (joined ps)) refl
  where
    go : (v : Verdict) → verdict (joined ps) ≡ v → Loosely (joined ps) (ended (feds started ps))
    go (Machine.Ok m) e = Loosely.sizes (sound (joined ps) m e) (ap answer_said (checked ps small ∙ ap answer_of e))
    go (Machine.No r) e = Loosely.no_text ((loose_refusals (joined ps) r).0 e) (ap answer_said (checked ps small ∙ ap answer_of e))
