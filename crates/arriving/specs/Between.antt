-- What a byte and a part do to a check, and what functions of this crate promise each other. Nothing here has to be
-- believed.
-- Figures: a number
pub mod Figures
-- Times: a time value
pub mod Times
-- Strings: a string part
pub mod Strings
-- Small: words, identifiers, binary parts
pub mod Small
-- Octets: UTF-8
pub mod Octets
-- Steps: layout and punctuation, and the items by their own
pub mod Steps
-- Arriving: the state, what a part does to it, and what it comes to
pub mod Arriving
-- Classes: the code's names for the classes of bytes
pub mod Classes
-- Room: what sums and indexes need
pub mod Room
-- Packing: the state as bytes for C
pub mod Packing
-- Leaps: runs of bytes and whole items at once
pub mod Leaps
