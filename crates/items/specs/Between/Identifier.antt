-- What the functions that read an identifier (docs/FORMAT.md, 7.2) promise, against the machine's scanner. Assumes
-- nothing.
use Rattle.std.specs.Prelude.{◌≡◌, List, ◌++◌, ℕ, ◌-◌, ◌<◌, length, get_or, take, drop}
use Rattle.machine.specs.Scan.{ran}
use Rattle.machine.specs.Names as Names
use Rattle.items.specs.Between.Places.{Onward}
use Rattle.items.specs.declared.identifier.Sort.{Sort}

abbrev pub sort_is : Sort → Names.Class
sort_is Sort.Letter = Names.letter
sort_is Sort.Figure = Names.figure
sort_is Sort.Neither = Names.neither

-- the letters and digits of an identifier from p on end at q
pub record NameEnds (text : List ℕ) (p q : ℕ) : Type 0 where
  pub goes : (a : List ℕ) → ran Names.scan p (Names.name a) (drop p text)
      ≡ ran Names.scan q (Names.name (a ++ take (q - p) (drop p text))) (drop q text)
  pub onward : Onward text p q
  pub stopped : q < length text → Names.class_of (get_or text q 0) ≡ Names.neither
