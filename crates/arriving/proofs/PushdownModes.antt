-- The modes of each kind of item. Assumes nothing.
use Prim.Native.Nat.{ℕ}
use Rattle.machine.specs.Numeric as Numeric
use Rattle.machine.specs.Strings as Strings
use Rattle.machine.specs.Binaries as Binaries
use Rattle.machine.specs.Names as Names
use Rattle.arriving.specs.declared.states.Quoted as QuotedOf
use Rattle.arriving.specs.declared.states.Inner.{Inner}
use Rattle.arriving.specs.declared.states.Figure.{Figure}
use Rattle.arriving.specs.declared.states.Stamp.{Stamp}
use Rattle.arriving.specs.declared.states.Moment.{Moment}
use Rattle.arriving.specs.declared.states.Octets.{Octets}
use Rattle.arriving.specs.declared.states.Mode.{Mode}
use Rattle.arriving.proofs.NumericsLaws.{NumericIs, numeric_by}
use Rattle.arriving.proofs.StringsLaws.{StringIs, is_one, is_two, is_opened, is_cr, is_lines, is_body, is_escape, is_unicode, is_hex, is_brace_open}
use Rattle.arriving.proofs.StringsLaws.{is_brace, is_done}
use Rattle.arriving.proofs.SmallLaws.{NameIs, BinaryIs}

pub data InNumber : Mode → Type 0 where
  spelling : {i : ℕ} → InNumber (Mode.Spelling i)
  counting : {f : Figure} → InNumber (Mode.Counting f)
  timing : {s : Stamp} {m : Moment} → InNumber (Mode.Timing s m)

pub data InString : Mode → Type 0 where
  quoting : {k : QuotedOf.Quoted} {s : Inner} → InString (Mode.Quoting k s)

pub data InBinary : Mode → Type 0 where
  packing : {o : Octets} → InBinary (Mode.Packing o)

pub data InName : Mode → Type 0 where
  naming : InName Mode.Naming

pub numeric_mode : {base : ℕ} {m : Mode} {s : Numeric.St} {n : ℕ} → NumericIs base m s n → InNumber m
numeric_mode h = numeric_by InNumber (λ f. counting) (λ s m. timing) (λ i. spelling) h

pub string_mode : {base : ℕ} {m : Mode} {s : Strings.St} {n : ℕ} → StringIs base m s n → InString m
string_mode (is_one m) = quoting
string_mode (is_two m) = quoting
string_mode (is_opened m) = quoting
string_mode (is_cr m) = quoting
string_mode (is_lines m l e) = quoting
string_mode (is_body m e) = quoting
string_mode (is_escape m e) = quoting
string_mode (is_unicode m e) = quoting
string_mode (is_hex m l e) = quoting
string_mode (is_brace_open m e) = quoting
string_mode (is_brace m l e) = quoting
string_mode (is_done e) = quoting

pub binary_mode : {m : Mode} {s : Binaries.St} {n : ℕ} → BinaryIs m s n → InBinary m
binary_mode BinaryIs.dollar = packing
binary_mode (BinaryIs.text l h e) = packing
binary_mode (BinaryIs.escape l h e) = packing
binary_mode (BinaryIs.hex l h e) = packing
binary_mode (BinaryIs.hex_low l h e) = packing
binary_mode (BinaryIs.low e) = packing
binary_mode (BinaryIs.pair e) = packing
binary_mode (BinaryIs.dot e) = packing
binary_mode (BinaryIs.done e) = packing

pub name_mode : {m : Mode} {s : Names.St} {n : ℕ} → NameIs m s n → InName m
name_mode (NameIs.named e) = naming
