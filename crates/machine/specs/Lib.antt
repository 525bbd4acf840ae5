-- Reading, a byte at a time: what happens at each byte, and every refusal's place.

-- Table: a byte's class, by thresholds
pub mod Table
-- Scan: what a byte does to an item
pub mod Scan
-- Numeric: a number or a time value
pub mod Numeric
-- Strings: a string part
pub mod Strings
-- Binaries: a binary part
pub mod Binaries
-- Names: a key identifier, and words
pub mod Names
-- Machine: the pushdown over the items
pub mod Machine
-- Verdict: what a whole text comes to
pub mod Verdict
-- Heard: what a text says of objects and keys
pub mod Heard
