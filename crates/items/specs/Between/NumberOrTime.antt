-- What the readers of a number or a time value (docs/FORMAT.md, 5 and 6) promise: how the machine's scanner goes on
-- from the place and the state that each stands for. Assumes nothing.
use Rattle.std.specs.Prelude.{ℕ, zero, suc, ◌+◌, ◌*◌, ◌-◌, ◌≤◌, ◌<◌, ◌%◌, ◌^◌, ◌≡◌, Bool, true, false, cond, ◌⊎◌, List}
use Rattle.std.specs.Prelude.{eqb, ltb, length, get_or, drop, Result, Ok, Err, Option, Some, None}
use Rattle.rules.specs.Rfc3629.{In}
use Rattle.meaning.specs.declared.Number.{Number}
use Rattle.meaning.specs.declared.Time.{Time}
use Rattle.meaning.specs.declared.Refusal.{Refusal}
use Rattle.meaning.specs.declared.Refusal.TheVariants.{NotGrammar}
use Rattle.meaning.specs.Letters.{ch}
use Rattle.meaning.specs.Limits.{text_limit, coefficient_limit, fraction_digits}
use Rattle.meaning.specs.Limits as Limits
use Rattle.meaning.specs.Meaning.{Meaning}
use Rattle.grammar.specs.Characters.{Hexdig}
use Rattle.machine.specs.Scan.{Ran, ended, broke, unended, goes_on, ran}
use Rattle.machine.specs.Numeric as S
use Rattle.machine.specs.Numeric.{St, Res, Slot, Len, d1, d2, d3, d4, scan, dig, field}
use Rattle.items.specs.declared.number.Acc.{Acc}
use Rattle.items.specs.declared.Item as ItemOf
use Rattle.items.specs.declared.NotGrammar as NotGrammarOf
use Rattle.items.specs.declared.Item.TheVariants as Item
use Rattle.items.specs.declared.Taken.{Taken}
use Rattle.items.specs.declared.number_or_time.Few.{Few}
use Rattle.items.specs.declared.number_or_time.Lead as LeadOf
use Rattle.items.specs.declared.number_or_time.Lead.TheVariants as Lead
use Rattle.items.specs.declared.number_or_time.Mark as MarkOf
use Rattle.items.specs.declared.number_or_time.Mark.TheVariants as Mark
use Rattle.meaning.specs.declared.Date.{Date}
use Rattle.items.specs.declared.clock.Clock.{Clock}
use Rattle.items.specs.Between.Places.{byte_at}

-- ---- the promise of the whole

-- a value and the place after it
abbrev pub taken : {A : Type 0} → A → ℕ → Taken A
taken v at = record { value = v; end = at }

-- an item and the place after it, or a refusal
abbrev pub Scanned : Type 0
Scanned = Result (Taken ItemOf.Item) Refusal

-- what an item that puts no store bytes means
pub data Means : ItemOf.Item → Meaning → Type 0 where
  null : Means Item.Null Meaning.null
  bool : {b : Bool} → Means (Item.Bool b) (Meaning.bool b)
  number : {n : Number} → Means (Item.Number n) (Meaning.number n)
  time : {t : Time} → Means (Item.Time t) (Meaning.time t)

-- an item from p to q
pub record Took (text : List ℕ) (p : ℕ) (i : ItemOf.Item) (q : ℕ) : Type 0 where
  pub m : Meaning
  pub means : Means i m
  pub runs : ran scan p S.begin (drop p text) ≡ ended m q
  pub past : p < q
  pub within : q ≤ length text

abbrev pub NumericSays : List ℕ → ℕ → Scanned → Type 0
NumericSays text p (Ok t) = Took text p t.value t.end
NumericSays text p (Err why) = ran scan p S.begin (drop p text) ≡ broke why

-- ---- from a state on

-- an answer says what a run comes to
pub data Tells : Ran Meaning → Scanned → Type 0 where
  item : {x : ItemOf.Item} {m : Meaning} {at : ℕ} → Means x m → Tells (ended m at) (Ok (taken x at))
  refused : {r : Refusal} → Tells (broke r) (Err r)

-- from the state st, at the place i of the text s, the scanner comes to what the answer says
pub record Reads (s : List ℕ) (i : ℕ) (st : St) (r : Scanned) : Type 0 where
  pub tells : Tells (ran scan i st (drop i s)) r

-- the outcome o at the place `at` ends the item as the answer says
pub record Closes (at : ℕ) (o : Res) (r : Scanned) : Type 0 where
  pub tells : Tells (goes_on scan at (λ st. unended) o) r

abbrev pub IsDigit : ℕ → Type 0
IsDigit b = In (ch "0") (ch "9") b

-- a place of a text that is not too long
pub record Place (s : List ℕ) (i : ℕ) : Type 0 where
  pub within : i ≤ length s
  pub short : length s ≤ text_limit

-- the text ends at i, or its byte there is no digit
pub data Edge (s : List ℕ) (i : ℕ) : Type 0 where
  ends : length s ≤ i → Edge s i
  under : get_or s i 0 < ch "0" → Edge s i
  past : ch "9" < get_or s i 0 → Edge s i

-- a digit stands at i, and has the value d
pub record Digit (s : List ℕ) (i d : ℕ) : Type 0 where
  pub inside : i < length s
  pub digit : IsDigit (get_or s i 0)
  pub value : d ≡ get_or s i 0 - ch "0"

-- the digit at i, or none stands there
abbrev pub DecimalSays : List ℕ → ℕ → Result ℕ NotGrammarOf.NotGrammar → Type 0
DecimalSays s i (Ok d) = Digit s i d
DecimalSays s i (Err e) = (e.place ≡ i) × Edge s i

-- ---- digits, streamed

-- m is c × 10 ^ z; or d × 10 ^ z for a d that does not fit. Neither ends in 0, but for c = 0.
abbrev pub Held : ℕ → ℕ → Bool → ℕ → Type 0
Held m c false z = (m ≡ c * 10 ^ z) × ((c ≡ 0) ⊎ (c % 10 ≡ 0 → ⊥))
Held m c true z = (d : ℕ) × (m ≡ d * 10 ^ z) × (coefficient_limit ≤ d) × (d % 10 ≡ 0 → ⊥)

-- the accumulator holds the value m
abbrev pub Holds : ℕ → Acc → Type 0
Holds m a = Held m a.c a.over a.z

abbrev pub acc_of : ℕ → Bool → ℕ → Acc
acc_of c o z = record { c = c; over = o; z = z }

-- one more digit, whatever the accumulator
unfoldable pub pushed : Acc → ℕ → Acc
pushed a b =
    let v = a.c * 10 ^ (a.z + 1) + (b - ch "0") in
    cond (eqb b (ch "0")) (acc_of a.c a.over (a.z + 1))
    (cond a.over (acc_of 0 true 0) (cond (ltb v coefficient_limit) (acc_of v false 0) (acc_of 0 true 0)))

-- a coefficient times a power of ten: it fits, or is too large to keep
pub data Shifted (v : ℕ) : Option ℕ → Type 0 where
  fits : v < coefficient_limit → Shifted v (Some v)
  over : coefficient_limit ≤ v → Shifted v None

-- the digits of s from i to j take the value m to w
pub data Span (s : List ℕ) : ℕ → ℕ → ℕ → ℕ → Type 0 where
  here : {i m : ℕ} → Span s i m i m
  next : {i m j w : ℕ} → Span s i m j w → j < length s → IsDigit (get_or s j 0)
      → Span s i m (suc j) (dig w (get_or s j 0))

-- the digits from a place on, whatever value the accumulator held before them
pub record Digited (s : List ℕ) (from : ℕ) (a : Acc) (r : Taken Acc) : Type 0 where
  pub low : from ≤ r.end
  pub high : r.end ≤ length s
  pub edge : Edge s r.end
  pub zeros : r.value.z ≤ r.end
  pub holds : (m : ℕ) → Holds m a → (w : ℕ) × Span s from m r.end w × Holds w r.value

-- the digits from a place on, after others with the value `had`: up to one that is none, or while they are sure to fit
pub record PlainSays (s : List ℕ) (from had : ℕ) (r : Taken ℕ) : Type 0 where
  pub low : from ≤ r.end
  pub high : r.end ≤ length s
  pub span : Span s from had r.end r.value
  pub stop : Edge s r.end ⊎ (1844674407370955160 < r.value)

-- a number ends at this place: no digit, no point and no exponent follows
pub record Ended (s : List ℕ) (at : ℕ) : Type 0 where
  pub edge : Edge s at
  pub point : byte_at s at ≡ ch "." → ⊥
  pub small_e : byte_at s at ≡ ch "e" → ⊥
  pub large_e : byte_at s at ≡ ch "E" → ⊥

abbrev pub EndsSays : List ℕ → ℕ → Bool → Type 0
EndsSays s at true = Ended s at
EndsSays s at false = at < length s

-- whether the digits before a place may be a time's
abbrev pub TimelySays : List ℕ → ℕ → Bool → Type 0
TimelySays s at true = Unit {0}
TimelySays s at false = (byte_at s at ≡ ch ":" → ⊥) × (byte_at s at ≡ ch "-" → ⊥)

-- a number below a thousand million, or any two that are not
abbrev pub Capped : ℕ → ℕ → Type 0
Capped w e = (e ≡ w) ⊎ ((1000000000 ≤ e) × (1000000000 ≤ w))

-- one more digit of an exponent, exact below a thousand million
unfoldable pub raised_by : ℕ → ℕ → ℕ
raised_by e b = cond (ltb e 1000000000) (10 * e + (b - ch "0")) e

-- an exponent's digits
pub record Powered (s : List ℕ) (from : ℕ) (r : Taken ℕ) : Type 0 where
  pub low : from ≤ r.end
  pub high : r.end ≤ length s
  pub edge : Edge s r.end
  pub small : r.value < 10000000000
  pub says : (w : ℕ) × Span s from 0 r.end w × Capped w r.value

-- what a reader of the rest of a number is handed: f fraction digits before the place i
pub record Ready (s : List ℕ) (a : Acc) (f i : ℕ) : Type 0 where
  pub within : i ≤ length s
  pub short : length s ≤ text_limit
  pub zeros : a.z ≤ i
  pub places : f ≤ i

-- whatever value the accumulator holds, the scanner comes from the state of that value to what the answer says
pub record From (s : List ℕ) (a : Acc) (i : ℕ) (st : ℕ → St) (r : Scanned) : Type 0 where
  pub reads : (m : ℕ) → Holds m a → Reads s i (st m) r

-- the same of the check of a number that ends at a place: its value times 10 ^ up / 10 ^ dn
pub record Settles (q : ℕ) (g : Bool) (a : Acc) (up dn at : ℕ) (r : Scanned) : Type 0 where
  pub closes : (m : ℕ) → Holds m a → Closes at (S.settle q g m up dn) r

-- ---- hexadecimal digits

-- the hexadecimal digits of s from i to j have the value w
pub data HexSpan (s : List ℕ) (i : ℕ) : ℕ → ℕ → Type 0 where
  here : HexSpan s i i 0
  next : {j w d : ℕ} → HexSpan s i j w → j < length s → Hexdig (get_or s j 0) d → HexSpan s i (suc j) (16 * w + d)

-- the value w is kept, or is too large
abbrev pub Kept : ℕ → ℕ → Bool → Type 0
Kept w v false = w ≡ v
Kept w v true = coefficient_limit ≤ w

-- the same as an option
abbrev pub HexKept : ℕ → Option ℕ → Type 0
HexKept w (Some v) = (w ≡ v) × (w < coefficient_limit)
HexKept w None = coefficient_limit ≤ w

pub record Hexed (s : List ℕ) (from : ℕ) (r : Taken (Option ℕ)) : Type 0 where
  pub low : from ≤ r.end
  pub high : r.end ≤ length s
  pub edge : S.hex_of (byte_at s r.end) ≡ S.no_hex
  pub says : (w : ℕ) × HexSpan s from r.end w × HexKept w r.value

-- ---- digits with no sign

-- how many digits, as the scanner counts them
abbrev pub len_of : ℕ → Len
len_of zero = d1
len_of (suc zero) = d1
len_of (suc (suc zero)) = d2
len_of (suc (suc (suc zero))) = d3
len_of (suc (suc (suc (suc n)))) = d4

-- to read on from the state u at j is to read from the state st at i
abbrev pub Onto : List ℕ → ℕ → St → ℕ → St → Type 0
Onto s i st j u = (r : Scanned) → Reads s j u r → Reads s i st r

-- n digits, with the value v, lead from the first at q to i
abbrev pub First : List ℕ → ℕ → ℕ → ℕ → ℕ → Type 0
First s q n v i = Onto s q S.begin i (S.both q (len_of n) (eqb (get_or s q 0) (ch "0")) v)

-- up to four digits, their value twice, and the place after them
pub record FewSays (s : List ℕ) (q : ℕ) (r : Few) : Type 0 where
  pub some : 1 ≤ r.n
  pub most : r.n ≤ 4
  pub place : r.at ≡ q + r.n
  pub within : r.at ≤ length s
  pub small : r.v < 10 ^ r.n
  pub none : (r.n ≡ 1) → get_or s q 0 ≡ ch "0" → r.v ≡ 0
  pub zeros : r.acc.z ≤ r.at
  pub edge : (r.n ≡ 4) ⊎ Edge s r.at
  pub first : First s q r.n r.v r.at
  pub holds : Holds r.v r.acc

-- a digit of a text that is not too long
pub record AtDigit (s : List ℕ) (q : ℕ) : Type 0 where
  pub within : q < length s
  pub short : length s ≤ text_limit
  pub digit : IsDigit (get_or s q 0)

-- what the digits begin, and where the scanner stands then
abbrev pub LeadSays : List ℕ → ℕ → Result LeadOf.Lead NotGrammarOf.NotGrammar → Type 0
LeadSays s q (Ok (Lead.Number x)) =
    Ready s x.value 0 x.end × ((m : ℕ) × Holds m x.value × Onto s q S.begin x.end (S.int q false m))
LeadSays s q (Ok (Lead.Hex at)) = (at ≤ length s) × Onto s q S.begin at (S.hex_mark q false)
LeadSays s q (Ok (Lead.Hour x)) =
    (x.end ≤ length s) × (x.value < 100) × Onto s q S.begin x.end (field q (S.minute S.alone x.value) 2 0)
LeadSays s q (Ok (Lead.Year x)) =
    (x.end ≤ length s) × (x.value < 10000) × Onto s q S.begin x.end (field q (S.month x.value) 2 0)
LeadSays s q (Err e) = Reads s q S.begin (Err (NotGrammar e.place))

-- what the byte b after n digits, the first of which is d, makes of them
pub data Marks (n d b : ℕ) : MarkOf.Mark → Type 0 where
  colon : n ≡ 2 → b ≡ ch ":" → Marks n d b Mark.Colon
  dash : n ≡ 4 → b ≡ ch "-" → Marks n d b Mark.Dash
  letter : n ≡ 1 → d ≡ ch "0" → (b ≡ ch "X") ⊎ (b ≡ ch "x") → Marks n d b Mark.X
  other : (n ≡ 2 → b ≡ ch ":" → ⊥) → (n ≡ 4 → b ≡ ch "-" → ⊥) → (n ≡ 1 → d ≡ ch "0" → b ≡ ch "x" → ⊥)
      → (n ≡ 1 → d ≡ ch "0" → b ≡ ch "X" → ⊥) → Marks n d b Mark.Other

-- digits that are no time: a number, unless a 0 goes before others
pub data Plainly (d n : ℕ) (x : Acc) (at : ℕ) : Result LeadOf.Lead NotGrammarOf.NotGrammar → Type 0 where
  number : (d ≡ ch "0" → n ≤ 1) → Plainly d n x at (Ok (Lead.Number (taken x at)))
  nothing : d ≡ ch "0" → 1 < n → Plainly d n x at (Err (record { place = at }))

-- ---- time fields

-- two digits, whatever the field
abbrev pub TwoSays : List ℕ → ℕ → Result (Taken ℕ) NotGrammarOf.NotGrammar → Type 0
TwoSays s i (Ok t) =
    (t.end ≤ length s) × (t.value < 100) × ((q : ℕ) (l : Slot) → Onto s i (field q l 2 0) t.end (field q l 0 t.value))
TwoSays s i (Err e) = (q : ℕ) (l : Slot) → Reads s i (field q l 2 0) (Err (NotGrammar e.place))

-- after the field l the byte `mark` must come, and then the field that `to` says
abbrev pub Leads : Slot → ℕ → (ℕ → Slot) → Type 0
Leads l mark to = (p q v b : ℕ) → S.on_full p q l v b ≡ S.only p mark (field q (to v) 2 0) b

abbrev pub ThenSays : List ℕ → ℕ → ℕ → Result (Taken ℕ) NotGrammarOf.NotGrammar → Type 0
ThenSays s i mark (Ok t) = (t.end ≤ length s) × (t.value < 100) × ((q : ℕ) (l : Slot) (to : ℕ → Slot) → Leads l mark to
    → Onto s i (field q l 2 0) t.end (field q (to t.value) 2 0))
ThenSays s i mark (Err e) = (q : ℕ) (l : Slot) (to : ℕ → Slot) → Leads l mark to
    → Reads s i (field q l 2 0) (Err (NotGrammar e.place))

-- what stands before a time of day, as the scanner has it
abbrev pub when_of : Option Date → S.When
when_of None = S.alone
when_of (Some d) = S.on d

-- a clock's own test
abbrev pub clock_test : Clock → Bool
clock_test c = S.ok_clock c.hour c.minute c.second

-- what the scanner does after a clock, whatever state has read it
abbrev pub Zoned : List ℕ → ℕ → S.When → Clock → ℕ → Scanned → Type 0
Zoned s q w c at r = (st : St) → scan at st (byte_at s at) ≡ S.on_zone q w c.hour c.minute c.second c.nanos
    (S.sec_of (byte_at s at)) → Reads s at st r

-- a fraction's digits in nanoseconds, less than a second: those that count have the value v, and `left` more would
-- count
pub record NanosSays (s : List ℕ) (from : ℕ) (r : Taken ℕ) : Type 0 where
  pub within : r.end ≤ length s
  pub small : r.value < Limits.second
  pub edge : Edge s r.end
  pub left : ℕ
  pub v : ℕ
  pub few : left ≤ fraction_digits
  pub scaled : r.value ≡ v * 10 ^ left
  pub goes : (q : ℕ) (w : S.When) (h m c : ℕ) → Onto s from (S.nanos q w h m c fraction_digits 0) r.end
      (S.nanos q w h m c left v)
