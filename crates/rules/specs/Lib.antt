-- What the promises of `rules` say, and all that a reader has to believe of them.
-- Rfc3629: which bytes form one character, which bytes are UTF-8, where the first fault is, a character's number.
pub mod Rfc3629
-- Rfc3339: leap years, the days of a month, which three numbers are a date.
pub mod Rfc3339
-- Paper: the number and place of each answer.
pub mod Paper
-- Told: what the calls for C hand over.
pub mod Told
-- Between: what functions promise each other
pub mod Between
