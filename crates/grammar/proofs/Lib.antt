-- What is proved of the rules. Assumes nothing.

-- A line comment takes all it can.
pub mod Comments
-- A string part is judged on its own: no escape reaches past it.
pub mod Apart
-- Every derived text is UTF-8.
pub mod Utf8
-- With the checks on, every derived meaning is good.
pub mod Good
-- Records and store bytes are each at most the text's length.
pub mod Sizes
-- Characters byte by byte, for a scanner of bytes.
pub mod Bytewise
-- The canonical text of every good meaning is derived with that meaning.
pub mod Canonical
-- The examples (specs/Examples.antt) are derived.
pub mod Examples
-- A fault of 4 to 7 comes before any 3.
pub mod Refused
