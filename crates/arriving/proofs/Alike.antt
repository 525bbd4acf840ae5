-- What a byte does to an item as the check keeps it, and to the same item as the machine has it. The check may stand at another place
-- than the machine, `base` further on: so one law serves the whole text (base 0) and an item read within a part. Assumes nothing.
use Prim.Native.Nat.{ℕ, ◌+◌}
use mathlib.Core.Path.{◌≡◌}
use Rattle.meaning.specs.declared.Refusal.{Refusal}
use Rattle.meaning.specs.declared.Refusal.TheVariants.{TextTooLong, NotUtf8, NotGrammar, BadEscape, BadTime}
use Rattle.meaning.specs.declared.Refusal.TheVariants.{BadNumber, TooDeep, TapeTooShort, StoreTooShort}
use Rattle.meaning.specs.declared.Refusal.TheVariants.{NotWellFormed, NoJsonForm, OutputTooShort}
use Rattle.meaning.specs.declared.Refusal.TheVariants.{WrittenTooLong, NoSuchRecord, RepeatedKey}
use Rattle.machine.specs.Scan as Scan
use Rattle.arriving.specs.declared.states.Mode.{Mode}
use Rattle.arriving.specs.declared.states.Out.{Out}
use Rattle.arriving.specs.declared.states.Out.TheVariants.{Takes, Stops, Breaks}

-- an item's refusal, at its place further on
abbrev pub moved : ℕ → Refusal → Refusal
moved base TextTooLong = TextTooLong
moved base (NotUtf8 p) = NotUtf8 p
moved base (NotGrammar p) = NotGrammar (base + p)
moved base (BadEscape p) = BadEscape (base + p)
moved base (BadTime p) = BadTime (base + p)
moved base (BadNumber p) = BadNumber (base + p)
moved base (TooDeep p) = TooDeep (base + p)
moved base (TapeTooShort n) = TapeTooShort n
moved base (StoreTooShort n) = StoreTooShort n
moved base (NotWellFormed p) = NotWellFormed p
moved base (NoJsonForm i) = NoJsonForm i
moved base (OutputTooShort n) = OutputTooShort n
moved base (WrittenTooLong n) = WrittenTooLong n
moved base (NoSuchRecord i) = NoSuchRecord i
moved base (RepeatedKey p) = RepeatedKey p

-- Is m s n: the check's item m stands for the machine's s, which has given n store bytes so far. Gives v n: the value v has n of them.
module _ {S M : Type 0} (Is : Mode → S → ℕ → Type 0) (Gives : M → ℕ → Type 0) where
  pub data Alike (base n : ℕ) : Out → Scan.Out S M → Type 0 where
    takes : {m : Mode} {s : S} {k : ℕ} → Is m s (n + k) → Alike base n (Takes m k) (Scan.takes s)
    stops : {v : M} → Gives v n → Alike base n Stops (Scan.stops v)
    breaks : {r r' : Refusal} → r' ≡ moved base r → Alike base n (Breaks r') (Scan.breaks r)
