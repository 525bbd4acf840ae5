-- Byte classes: what a row knows of its bytes.
pub mod Tables
-- Runs of a scanner: complete forwards, sound backwards.
pub mod Runs
-- The scanner of a number or a time value agrees with the grammar.
pub mod Numeric
-- The scanner of a string part agrees with the grammar.
pub mod Strings
-- The scanner of a binary part agrees with the grammar.
pub mod Binaries
-- The scanners of identifiers and words agree with the grammar.
pub mod Names
-- What a byte's class says of it.
pub mod Classes
-- What is heard beside the machine.
pub mod Heard
-- Layout, forwards.
pub mod Layouts
-- The keys of a derivation, with their places.
pub mod Derived
-- What the grammar derives, the pushdown reads.
pub mod Complete
-- What is heard of keys, against the grammar.
pub mod Repeated
-- What the pushdown accepts, the grammar derives.
pub mod Sound
-- Every refusal's place is at most the text's length.
pub mod Places
-- The whole: `complete`, `sound`, `unambiguous`; running on, and after a refusal.
pub mod Whole
-- From the run of an item to the pushdown over it.
pub mod Lift
-- Texts with their refusal or canonical text, computed.
pub mod Vectors
-- Which of 3 to 7, and where, by the grammar alone.
pub mod Refusals
-- What is accepted and what is refused, 15 too.
pub mod Accepted
