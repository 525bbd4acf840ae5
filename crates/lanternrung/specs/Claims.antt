-- What is claimed of the public calls (docs/CLAIMS.md; docs/FORMAT.md, 10 to 13): each claim is about the promises, so
-- about any program that keeps them. Assumes nothing.
use Rattle.std.specs.Prelude.{◌≡◌, ◌↔◌, ◌⊎◌, true, List, [], ◌++◌, ℕ, ◌*◌, ◌/◌, ◌≤◌, length, take, drop}
use Rattle.std.specs.Prelude.{Result, Ok, Err}
use Rattle.std.proofs.Math.Option.{none}
use Rattle.rules.specs.Rfc3629.{Judged}
use Rattle.rules.specs.Rfc3339.{Dated}
use Rattle.meaning.specs.declared.Refusal.{Refusal}
use Rattle.meaning.specs.Bytes.{laid}
use Rattle.meaning.specs.Canonical.{canonical}
use Rattle.meaning.specs.Filed.{filed}
use Rattle.meaning.specs.Good.{Good, Bytes}
use Rattle.meaning.specs.Json.{no_json}
use Rattle.meaning.specs.Limits.{text_limit}
use Rattle.meaning.specs.Meaning.{Meaning}
use Rattle.meaning.specs.Paper.{number_of}
use Rattle.meaning.specs.Tape.{records, bytes, tape_of, store_of, WellFormed}
use Rattle.grammar.specs.Values.{Loose, Text}
use Rattle.grammar.specs.Refused.{Repeats, TextRefused}
use Rattle.tape.specs.Looking.{Looks}
use Rattle.reader.specs.Answers.{Answer, counts, tape_bytes, Measures, Loosely, Reads}
use Rattle.arriving.specs.declared.Check.{Check}
use Rattle.arriving.specs.Between.Arriving.{started, fed, feds, ended, joined}
use Rattle.writer.specs.Written.{WritesJaxn, WritesJson}
use Rattle.lanternrung.specs.declared.exports.Sizes.{Sizes}
use Rattle.lanternrung.specs.declared.exports.Text.{Text as TextStruct}
use Rattle.lanternrung.specs.Told.{Utf8Told, DateTold, MeasureTold, ReadTold, LookTold, JaxnTold, JsonTold}
use Rattle.lanternrung.specs.Told.{CheckStartTold, CheckFeedTold, CheckFinishTold, LooselyTold}

-- ---- reading

-- unambiguous: the grammar gives no text two meanings; one_refusal: nor two refusals
pub record OneReading : Type 0 where
  pub meaning : {text : List ℕ} {m n : Meaning} → Text text m → Text text n → m ≡ n
  pub refusal : {text : List ℕ} {v w : Refusal} → TextRefused text v → TextRefused text w → v ≡ w

-- the answer is done, and not a refusal
abbrev pub Counted : Answer → Type 0
Counted a = (r : ℕ) × (s : ℕ) × (a ≡ counts r s)

-- the grammar gives the text the meaning m, within the limits, and there is room for its tape and its store
pub record Takes (text tape store : List ℕ) (m : Meaning) : Type 0 where
  pub means : Text text m
  pub tape_room : tape_bytes m ≤ length tape
  pub store_room : bytes m ≤ length store

-- the counts of m are answered; its tape and its store lie at the start of the two buffers, and the rest of each is as
-- it was
pub record Holds (m : Meaning) (tape store : List ℕ) (a : Answer) (tape' store' : List ℕ) : Type 0 where
  pub answer : a ≡ counts (records m) (bytes m)
  pub taped : tape' ≡ laid (tape_of m) tape
  pub stored : store' ≡ laid (store_of m) store

-- of what `read` answers and leaves: done exactly where it takes the text, and then holds its meaning
pub record Accepted (text tape store : List ℕ) (a : Answer) (tape' store' : List ℕ) : Type 0 where
  pub exactly : Counted a ↔ ((m : Meaning) × Takes text tape store m)
  pub then : (m : Meaning) → Takes text tape store m → Holds m tape store a tape' store'

-- the counts of m are answered: they are the sizes of its tape, sixteen bytes a record, and of its store
pub record SizesOf (m : Meaning) (a : Answer) : Type 0 where
  pub answer : a ≡ counts (records m) (bytes m)
  pub tape_size : length (tape_of m) ≡ records m * 16
  pub store_size : length (store_of m) ≡ bytes m

-- of what `measure` answers
pub record Measured (text : List ℕ) (a : Answer) : Type 0 where
  pub exactly : Counted a ↔ ((m : Meaning) × Text text m)
  pub then : (m : Meaning) → Text text m → SizesOf m a

-- accepted, measured: this is so of all that the two calls may answer and leave
pub record IsRead : Type 0 where
  pub read : {text tape store : List ℕ} {a : Answer} {tape' store' : List ℕ} → Reads text tape store a tape' store'
      → Accepted text tape store a tape' store'
  pub measure : {text : List ℕ} {a : Answer} → Measures text a → Measured text a

-- the refusals that a text is given, whatever is lent
abbrev pub OfText : Refusal → Type 0
OfText why = (number_of why ≤ 7) ⊎ (number_of why ≡ 15)

-- refusals: which of 1 to 7, or 15, is given, and where; by `read` whatever is lent
pub record Refusals : Type 0 where
  pub measure : {text : List ℕ} {a : Answer} {why : Refusal} → Measures text a
      → (a ≡ Err why) ↔ TextRefused text why
  pub read : {text tape store : List ℕ} {a : Answer} {tape' store' : List ℕ} {why : Refusal}
      → Reads text tape store a tape' store' → OfText why → (a ≡ Err why) ↔ TextRefused text why

-- The text has a meaning but for its keys. At p begins a key that repeats an earlier one of its object, and before p
-- none does.
pub record RepeatsFirst (text : List ℕ) (p : ℕ) : Type 0 where
  pub meaning : Meaning
  pub means : Loose true text meaning
  pub repeats : Repeats text p
  pub first : (q : ℕ) → Repeats text q → p ≤ q

-- repeated_key: 15 is given exactly there; and a text with a meaning but for its keys has one where none repeats
pub record RepeatedKeys : Type 0 where
  pub measure : {text : List ℕ} {a : Answer} {p : ℕ} → Measures text a
      → (a ≡ Err (Refusal.RepeatedKey p)) ↔ RepeatsFirst text p
  pub read : {text tape store : List ℕ} {a : Answer} {tape' store' : List ℕ} {p : ℕ}
      → Reads text tape store a tape' store' → (a ≡ Err (Refusal.RepeatedKey p)) ↔ RepeatsFirst text p
  pub none_repeats : {text : List ℕ} {m : Meaning} → Loose true text m
      → ((p : ℕ) → Repeats text p → ⊥) ↔ Text text m

-- bounded: for every accepted text, records and store bytes are each at most its length
abbrev pub Within : List ℕ → ℕ → ℕ → Type 0
Within text r s = (r ≤ length text) × (s ≤ length text)

pub record Bounded : Type 0 where
  pub grammar : {text : List ℕ} {m : Meaning} → Text text m → Within text (records m) (bytes m)
  pub measure : (text : List ℕ) {r s : ℕ} → Measures text (counts r s) → Within text r s
  pub read : {text tape store : List ℕ} {r s : ℕ} {tape' store' : List ℕ}
      → Reads text tape store (counts r s) tape' store' → Within text r s

-- ---- writing

-- the answer is done, and not a refusal
abbrev pub Wrote : Result ℕ Refusal → Type 0
Wrote a = (n : ℕ) × (a ≡ Ok n)

-- the text t is within the limit, and there is room for it
pub record Room (t out : List ℕ) : Type 0 where
  pub short : length t ≤ text_limit
  pub fits : length t ≤ length out

-- the length of t is answered; t lies at the start of the output, and the rest is as it was
pub record Prints (t out : List ℕ) (a : Result ℕ Refusal) (out' : List ℕ) : Type 0 where
  pub answer : a ≡ Ok (length t)
  pub holds : out' ≡ laid t out

pub record WrittenJaxn (tape store out : List ℕ) (a : Result ℕ Refusal) (out' : List ℕ) : Type 0 where
  pub exactly : Wrote a ↔ ((w : WellFormed tape store) × Room (canonical w.meaning) out)
  pub then : (w : WellFormed tape store) → Room (canonical w.meaning) out
      → Prints (canonical w.meaning) out a out'

pub record WrittenJson (tape store out : List ℕ) (a : Result ℕ Refusal) (out' : List ℕ) : Type 0 where
  pub exactly : Wrote a ↔ ((w : WellFormed tape store) × (no_json w.meaning ≡ none)
      × Room (canonical w.meaning) out)
  pub then : (w : WellFormed tape store) → no_json w.meaning ≡ none → Room (canonical w.meaning) out
      → Prints (canonical w.meaning) out a out'

-- written: a well-formed tape and store have exactly one meaning; the writers' text is its canonical text; what `read`
-- filled is well formed, and has the text's meaning
pub record IsWritten : Type 0 where
  pub one_meaning : {tape store : List ℕ} (v w : WellFormed tape store) → v.meaning ≡ w.meaning
  pub jaxn : {tape store out : List ℕ} {a : Result ℕ Refusal} {out' : List ℕ} → WritesJaxn tape store out a out'
      → WrittenJaxn tape store out a out'
  pub json : {tape store out : List ℕ} {a : Result ℕ Refusal} {out' : List ℕ} → WritesJson tape store out a out'
      → WrittenJson tape store out a out'
  pub filled : {text tape store : List ℕ} {r s : ℕ} {tape' store' : List ℕ}
      → Reads text tape store (counts r s) tape' store'
      → (w : WellFormed (take (r * 16) tape') (take s store')) × Text text w.meaning

-- same-text: the canonical texts of two accepted texts, and of two meanings within the limits, are the same bytes
-- exactly when the meanings are the same
pub record SameText : Type 0 where
  pub texts : {s t : List ℕ} {m n : Meaning} → Text s m → Text t n → (canonical m ≡ canonical n) ↔ (m ≡ n)
  pub meanings : {m n : Meaning} → Good m → Good n → (canonical m ≡ canonical n) ↔ (m ≡ n)

-- the counts of this tape and store are answered, and they are what the two buffers hold
pub record Again (tape store : List ℕ) (a : Answer) (tape' store' : List ℕ) : Type 0 where
  pub answer : a ≡ counts (length tape / 16) (length store)
  pub taped : tape' ≡ tape
  pub stored : store' ≡ store

-- read-back: the canonical text of a meaning within the limits is accepted, and gives the same tape and store
pub record ReadBack : Type 0 where
  pub meaning : {m : Meaning} {tape store : List ℕ} {a : Answer} {tape' store' : List ℕ} → Good m
      → length (canonical m) ≤ text_limit → tape_bytes m ≤ length tape → bytes m ≤ length store
      → Reads (canonical m) tape store a tape' store' → Holds m tape store a tape' store'
  -- of an accepted text: whatever buffers are lent, to read its canonical text is to read it
  pub text : {text : List ℕ} {m : Meaning} {tape store : List ℕ} {a b : Answer} {t u s v : List ℕ} → Text text m
      → length (canonical m) ≤ text_limit → Reads text tape store a t s → Reads (canonical m) tape store b u v
      → (a ≡ b) × (t ≡ u) × (s ≡ v)
  -- of what the writers wrote, read into buffers as long as the tape and the store that they wrote it from
  pub jaxn : {tape store out : List ℕ} {n : ℕ} {out' t s : List ℕ} {a : Answer} {t' s' : List ℕ}
      → WritesJaxn tape store out (Ok n) out' → length t ≡ length tape → length s ≡ length store
      → Reads (take n out') t s a t' s' → Again tape store a t' s'
  pub json : {tape store out : List ℕ} {n : ℕ} {out' t s : List ℕ} {a : Answer} {t' s' : List ℕ}
      → WritesJson tape store out (Ok n) out' → length t ≡ length tape → length s ≡ length store
      → Reads (take n out') t s a t' s' → Again tape store a t' s'

-- filed-before: the text in the old form of a meaning within the limits is accepted, with that meaning
pub record FiledBefore : Type 0 where
  pub means : {m : Meaning} → Good m → length (filed m) ≤ text_limit → Text (filed m) m
  pub held : {m : Meaning} {tape store : List ℕ} {a : Answer} {tape' store' : List ℕ} → Good m
      → length (filed m) ≤ text_limit → tape_bytes m ≤ length tape → bytes m ≤ length store
      → Reads (filed m) tape store a tape' store' → Holds m tape store a tape' store'
  -- whatever buffers are lent, to read it is to read the canonical text
  pub same : {m : Meaning} {tape store : List ℕ} {a b : Answer} {t u s v : List ℕ} → Good m
      → length (filed m) ≤ text_limit → length (canonical m) ≤ text_limit → Reads (filed m) tape store a t s
      → Reads (canonical m) tape store b u v → (a ≡ b) × (t ≡ u) × (s ≡ v)

-- ---- a text in parts

-- the check that `check_start` and then `check_feed` answer, after all of the text has come in parts, cut anywhere
pub data Came : List ℕ → Check → Type 0 where
  start : Came [] started
  feed : {text : List ℕ} {c : Check} (part : List ℕ) → Came text c → Came (text ++ part) (fed c part)

-- the bytes of a state, once there are enough of them
abbrev pub state_bytes : ℕ
state_bytes = 640

-- the bytes that C keeps, after the same two calls: whatever they held before the start; and copied elsewhere
pub data CameC : List ℕ → List ℕ → Type 0 where
  start : {held state : List ℕ} → state_bytes ≤ length held → CheckStartTold held state → CameC [] state
  feed : {text state state' : List ℕ} (part : List ℕ) → CameC text state → CheckFeedTold state part state'
      → CameC (text ++ part) state'
  copied : {text state other : List ℕ} → CameC text state → state_bytes ≤ length other
      → take state_bytes other ≡ take state_bytes state → CameC text other

-- with 15 left out: where `measure` answers 15 the check answers counts; else both answer the same
pub record LeftOut (a b : Answer) : Type 0 where
  pub repeated : (p : ℕ) → a ≡ Err (Refusal.RepeatedKey p) → Counted b
  pub same : ((p : ℕ) → a ≡ Err (Refusal.RepeatedKey p) → ⊥) → a ≡ b

-- checked: for every list of parts, and however a check was come by, the finish answers what `measure` answers for the
-- parts joined, with 15 left out; nothing past the state's bytes is written, and no more bytes than there are
pub record Checked : Type 0 where
  pub parts : (ps : List (List ℕ)) → Bytes (joined ps) → Loosely (joined ps) (ended (feds started ps))
  pub finish : {text : List ℕ} {c : Check} → Came text c → Bytes text → Loosely text (ended c)
  pub finish_c : {text state : List ℕ} {r : Sizes} → CameC text state → Bytes text → CheckFinishTold state r
      → LooselyTold text r
  pub left_out : {text : List ℕ} {a b : Answer} → Measures text a → Loosely text b → LeftOut a b
  pub start_past : {state state' : List ℕ} → CheckStartTold state state'
      → (length state' ≡ length state) × (drop state_bytes state' ≡ drop state_bytes state)
  pub feed_past : {state state' : List ℕ} (part : List ℕ) → CheckFeedTold state part state'
      → (length state' ≡ length state) × (drop state_bytes state' ≡ drop state_bytes state)

-- ---- every call

-- untouched: after a refusal each lent buffer holds what it held before the call; the other calls are lent none to
-- write
pub record Untouched : Type 0 where
  pub read : {text tape store : List ℕ} {why : Refusal} {tape' store' : List ℕ}
      → Reads text tape store (Err why) tape' store' → (tape' ≡ tape) × (store' ≡ store)
  pub write_jaxn : {tape store out : List ℕ} {why : Refusal} {out' : List ℕ}
      → WritesJaxn tape store out (Err why) out' → out' ≡ out
  pub write_json : {tape store out : List ℕ} {why : Refusal} {out' : List ℕ}
      → WritesJson tape store out (Err why) out' → out' ≡ out

-- what P allows is one: an answer; an answer and the bytes left in one buffer, or in two
abbrev pub Single : {A : Type 0} → (A → Type 0) → Type 0
Single {A} P = (a b : A) → P a → P b → a ≡ b

abbrev pub Single₁ : {A : Type 0} → (A → List ℕ → Type 0) → Type 0
Single₁ {A} P = (a b : A) (x y : List ℕ) → P a x → P b y → (a ≡ b) × (x ≡ y)

abbrev pub Single₂ : {A : Type 0} → (A → List ℕ → List ℕ → Type 0) → Type 0
Single₂ {A} P = (a b : A) (t u s v : List ℕ) → P a t s → P b u v → (a ≡ b) × (t ≡ u) × (s ≡ v)

-- one-outcome-..: of the outcomes that the promise of a call allows for an input, answer and all final bytes, there is
-- one
pub record OneOutcome : Type 0 where
  pub utf8 : (s : List ℕ) → Single (Judged s)
  pub date : (year month day : ℕ) → Single (Dated year month day)
  pub measure : (text : List ℕ) → Single (Measures text)
  pub read : (text tape store : List ℕ) → Single₂ (Reads text tape store)
  pub look : (tape store : List ℕ) (index : ℕ) → Single (Looks tape store index)
  pub write_jaxn : (tape store out : List ℕ) → Single₁ (WritesJaxn tape store out)
  pub write_json : (tape store out : List ℕ) → Single₁ (WritesJson tape store out)
  pub check_start : Single (λ (c : Check). c ≡ started)
  pub check_feed : (c : Check) (part : List ℕ) → Single (λ (d : Check). d ≡ fed c part)
  pub check_finish : (c : Check) → Single (λ (a : Answer). a ≡ ended c)

-- one-outcome-c-..: the same of the calls for C
pub record OneOutcomeC : Type 0 where
  pub utf8 : (s : List ℕ) → Single (Utf8Told s)
  pub date : (year month day : ℕ) → Single (DateTold year month day)
  pub measure : (text : List ℕ) → Single (MeasureTold text)
  pub read : (text tape store : List ℕ) → Single₂ (ReadTold text tape store)
  pub look : (tape store : List ℕ) (index : ℕ) → Single (LookTold tape store index)
  pub write_jaxn : (tape store out : List ℕ) → Single₁ (JaxnTold tape store out)
  pub write_json : (tape store out : List ℕ) → Single₁ (JsonTold tape store out)
  pub check_start : (state : List ℕ) → Single (CheckStartTold state)
  pub check_feed : (state part : List ℕ) → Single (CheckFeedTold state part)
  pub check_finish : (state : List ℕ) → Single (CheckFinishTold state)

-- calls_for_c: where `refused` is 0 the library's answer is done, with these counts; where it is not, each lent buffer
-- is as it was
pub record CallsForC : Type 0 where
  pub measure_done : {text : List ℕ} {r : Sizes} → MeasureTold text r → r.refused ≡ 0
      → Measures text (counts r.records r.bytes)
  pub read_done : {text tape store : List ℕ} {r : Sizes} {tape' store' : List ℕ}
      → ReadTold text tape store r tape' store' → r.refused ≡ 0
      → Reads text tape store (counts r.records r.bytes) tape' store'
  pub jaxn_done : {tape store out : List ℕ} {r : TextStruct} {out' : List ℕ} → JaxnTold tape store out r out'
      → r.refused ≡ 0 → WritesJaxn tape store out (Ok r.length) out'
  pub json_done : {tape store out : List ℕ} {r : TextStruct} {out' : List ℕ} → JsonTold tape store out r out'
      → r.refused ≡ 0 → WritesJson tape store out (Ok r.length) out'
  pub read_refused : {text tape store : List ℕ} {r : Sizes} {tape' store' : List ℕ}
      → ReadTold text tape store r tape' store' → (r.refused ≡ 0 → ⊥) → (tape' ≡ tape) × (store' ≡ store)
  pub jaxn_refused : {tape store out : List ℕ} {r : TextStruct} {out' : List ℕ} → JaxnTold tape store out r out'
      → (r.refused ≡ 0 → ⊥) → out' ≡ out
  pub json_refused : {tape store out : List ℕ} {r : TextStruct} {out' : List ℕ} → JsonTold tape store out r out'
      → (r.refused ≡ 0 → ⊥) → out' ≡ out
