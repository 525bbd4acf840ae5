-- `p_list`: the cases marked P hold; `slips_hold`: and so do the slips (docs/FORMAT.md, 14). Assumes nothing.
use mathlib.Core.Path.{◌≡◌, refl, sym, subst}
use mathlib.Core.Bool.{true}
use mathlib.Core.List.{List, [], ◌∷◌}
use mathlib.Core.Option.{some}
use Prim.Native.Nat.{ℕ}
use lib.Count.{count_leading_zeros}
use Rattle.reader.specs.Answers.{Answer}
use Rattle.std.specs.Prelude.{Ok, Err}
use Rattle.rules.specs.Between.Posts.{low_of, high_of}
use Rattle.rules.specs.Rfc3629.{encode}
use Rattle.rules.specs.Between.Decided.{is_wide, length_at, fault_from, judged}
use Rattle.rules.specs.Between.Decided.{is_leap, is_date}
use Rattle.meaning.specs.declared.Refusal.{Refusal}
use Rattle.meaning.specs.declared.Refusal.TheVariants.{NotGrammar, BadEscape, BadTime, BadNumber, RepeatedKey}
use Rattle.meaning.specs.Limits.{depth_limit}
use Rattle.meaning.specs.Letters.{letters}
use Rattle.meaning.specs.Meaning.{Meaning}
use Rattle.meaning.specs.Once.{same, once, once_elements}
use Rattle.meaning.specs.Between.Events.{Event, begins, ends, named, among, first_repeat}
use Rattle.meaning.specs.Paper.{number_of, place_of}
use Rattle.meaning.specs.Canonical.{decimal_in, decimal, fixed, trimmed, escaped, escapes, quoted, hex_pairs, binary_text, power_text, number_text, date_text}
use Rattle.meaning.specs.Canonical.{zeros, pointed, finite_text, fraction_text, clock_text, time_text, text_with, canonical}
use Rattle.grammar.specs.Values.{Text}
use Rattle.grammar.specs.Refused.{TextRefused, loose}
use Rattle.machine.specs.Numeric.{strip, settle}
use Rattle.machine.specs.Strings as S
use Rattle.machine.specs.Binaries as B
use Rattle.machine.specs.Names as N
use Rattle.machine.specs.Machine.{Ok, No, read, reading}
use Rattle.machine.specs.Verdict.{decoded, verdict}
use Rattle.machine.specs.Heard.{tell, telling, heard_of}
use Rattle.machine.proofs.Whole.{sound}
use Rattle.machine.proofs.Refusals.Whole.{loose_refusals}
use Rattle.machine.proofs.Accepted.{unambiguous, not_refused, first_refused}
use Rattle.reader.proofs.Claims.{measure_refuses, read_refuses}
use Rattle.lanternrung.specs.Trials.Samples.{samples, slips, IsTaken, Says, IsRefused, All, done, ◌&◌}
use Rattle.lanternrung.proofs.Claims.Reading.{accepted, measured}

-- ---- from a verdict to what the grammar and the promises say of the text

takes : (text : List ℕ) (m : Meaning) (printed : List ℕ) → verdict text ≡ Ok m → once m ≡ true → canonical m ≡ printed → IsTaken text m printed
takes text m printed e o p =
    let x : Text text m = record { loose = sound text m e; single = o } in
    record {
      means = x;
      only = λ n y. unambiguous y x;
      prints = p;
      measured = λ a q. ((measured q).then m x).answer;
      read = λ tape store a tape' store' h l q. ((accepted q).then m (record { means = x; tape_room = h; store_room = l })).answer;
    }

is_refused : (text : List ℕ) (why : Refusal) → TextRefused text why → IsRefused text (number_of why) (place_of why)
is_refused text why x =
    record {
      meaningless = λ m y. not_refused y x;
      measured = λ a q. said a (measure_refuses x q);
      read = λ tape store a tape' store' q. said a (read_refuses x q);
    }
  where
    said : (a : Answer) → a ≡ Err why → Says (number_of why) (place_of why) a
    said a f = subst (Says (number_of why) (place_of why)) (sym f) (refl, refl)

refuses : (text : List ℕ) (why : Refusal) → verdict text ≡ No why → IsRefused text (number_of why) (place_of why)
refuses text why e = is_refused text why (loose ((loose_refusals text why).0 e))

-- 15, by the keys that are heard
repeats : (text : List ℕ) (m : Meaning) (keys : List Event) (p : ℕ) → verdict text ≡ Ok m → (telling text).heard ≡ heard_of keys
    → first_repeat [] keys ≡ some p → TextRefused text (RepeatedKey p)
repeats text m keys p e h f = first_refused (sound text m e) keys h p f

-- ---- the verdicts are computed, and the keys

pub keys_twice : TextRefused (letters "{\"a\":1,b:2,a:3,b:4}") (RepeatedKey 11) × TextRefused (letters "{a:{b:1,b:2},a:3}") (RepeatedKey 8)
unfolding verdict decoded judged fault_from length_at is_wide low_of high_of count_leading_zeros depth_limit strip settle read reading S.plain_byte S.on_body
    S.scan
    N.class_of N.on_start N.on_name N.scan same among first_repeat tell telling
keys_twice = (
  repeats _ _ (begins ∷ named 1 (letters "a") ∷ named 7 (letters "b") ∷ named 11 (letters "a") ∷ named 15 (letters "b") ∷ ends ∷ []) 11 refl refl refl,
  repeats _ _ (begins ∷ named 1 (letters "a") ∷ begins ∷ named 4 (letters "b") ∷ named 8 (letters "b") ∷ ends ∷ named 13 (letters "a") ∷ ends ∷ []) 8 refl refl
      refl,
)

both : All samples × All slips
unfolding verdict decoded judged fault_from length_at is_wide low_of high_of count_leading_zeros encode is_leap is_date depth_limit decimal_in
    decimal fixed trimmed escaped
    escapes quoted hex_pairs binary_text power_text zeros pointed finite_text number_text date_text fraction_text clock_text time_text text_with strip settle
    read reading
    S.hex_of
    S.short_of S.alone S.unit S.in_braces S.hexed S.on_hex S.on_brace S.on_short S.plain_byte S.on_body S.line_byte S.on_lines S.scan B.on_digit B.on_short
    B.on_text B.scan
    N.class_of N.on_start N.on_name N.scan N.word_scan once once_elements
both = (
  refuses _ (NotGrammar 0) refl
      & refuses _ (NotGrammar 1) refl
      & takes _ _ _ refl refl refl
      & refuses _ (NotGrammar 3) refl
      & refuses _ (NotGrammar 1) refl
      & takes _ _ _ refl refl refl
      & takes _ _ _ refl refl refl
      & takes _ _ _ refl refl refl
      & takes _ _ _ refl refl refl
      & refuses _ (BadTime 0) refl
      & takes _ _ _ refl refl refl
      & refuses _ (BadEscape 1) refl
      & takes _ _ _ refl refl refl
      & is_refused _ (RepeatedKey 11) keys_twice.0
      & is_refused _ (RepeatedKey 8) keys_twice.1
      & refuses _ (BadNumber 7) refl
      & done,
  takes _ _ _ refl refl refl
      & refuses _ (BadEscape 1) refl
      & takes _ _ _ refl refl refl
      & takes _ _ _ refl refl refl
      & takes _ _ _ refl refl refl
      & takes _ _ _ refl refl refl
      & takes _ _ _ refl refl refl
      & takes _ _ _ refl refl refl
      & done,
)

pub p_list : All samples
p_list = both.0

pub slips_hold : All slips
slips_hold = both.1
