-- The string scanner agrees with the rules: complete (`Forward`), sound for raw parts (`Back`), and a raw part that is UTF-8 is
-- one of the rules (`Whole`). Assumes nothing.
pub mod Tests
pub mod Ascii
pub mod Quotes
pub mod Raw
pub mod Forward
pub mod Back
pub mod Whole
pub use Forward.{part_goes}
pub use Raw.{RawPart}
pub use Back.{PartRest, part_is, raw_part}
pub use Whole.{part_of, part_cut}
