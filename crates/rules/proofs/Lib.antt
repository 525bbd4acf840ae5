-- Tests that antt computes at each number below a bound.
pub mod Computed
-- What a test promises: used, and made.
pub mod TestsLaws
-- UTF-8: characters join, split at an ASCII byte, and are told apart by their first byte.
pub mod Characters
-- A character's number and its bytes: RFC 3629's sections 3 and 4 agree.
pub mod Numbers
-- What the loops over ASCII have passed.
pub mod Runs
-- A character as bounds on the bytes at a place, for `char_at`.
pub mod Places
-- Bytes that may follow each other, one after the other, are UTF-8: the law behind the blocks.
pub mod Opens
-- The first fault as a function that computes.
pub mod Decided
-- Leap years and the days of a month.
pub mod Months
-- The months but February, one by one.
pub mod CalendarLaws
-- Two outcomes that a promise allows are equal.
pub mod Outcomes
