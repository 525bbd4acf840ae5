-- What functions of this crate promise each other, and what that is said with. Nothing here has to be believed.
-- Places: runs of a scanner over places of a slice
pub mod Places
-- HexDigit: what the functions that read a hexadecimal digit and a short escape promise
pub mod HexDigit
-- PlacedPart: a part by itself, and what it puts into the store
pub mod PlacedPart
-- StringPart: what the functions that read a string part promise
pub mod StringPart
-- BinaryPart: what the functions that read a binary part promise
pub mod BinaryPart
-- Spelling: what the functions that read a word promise
pub mod Spelling
-- Identifier: what the functions that read an identifier promise
pub mod Identifier
-- NumberOrTime: what the functions that read a number or a time value promise
pub mod NumberOrTime
-- Fractions: what the function that reads a second's fraction promises
pub mod Fractions
