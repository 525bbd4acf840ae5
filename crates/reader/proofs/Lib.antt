-- ScanningLaws: the machine over a text, a byte at a time
pub mod ScanningLaws
-- ScanningClassLaws: what a byte's class says of it
pub mod ScanningClassLaws
-- LayoutLaws: layout
pub mod LayoutLaws
-- ScanningItemLaws: a scanner, lifted to the machine
pub mod ScanningItemLaws
-- JoinedLaws: parts joined by a plus
pub mod JoinedLaws
-- KeyLaws: where a key is wanted
pub mod KeyLaws
-- CursorHeadLaws: where a value is wanted
pub mod CursorHeadLaws
-- CursorTableLaws: the table of the keys that have come, over a container
pub mod CursorTableLaws
-- CursorLoopLaws: a round of the loops over elements and members
pub mod CursorLoopLaws
-- Claims: what the promises come to, in terms of the grammar
pub mod Claims
-- CursorBracketLaws: brackets, commas and colons
pub mod CursorBracketLaws
-- WalkLaws: one walk over a text
pub mod WalkLaws
-- WalkWindowLaws: the windows of the search for a repeated key
pub mod WalkWindowLaws
-- AnswersLaws: what `measure` and `read` make of a walk
pub mod AnswersLaws
-- SpellingHeardLaws: what the next colon names
pub mod SpellingHeardLaws
-- SpellingGivenLaws: the bytes given of a key are its first
pub mod SpellingGivenLaws
-- SpellingLaws: a key, spelled a byte at a time
pub mod SpellingLaws
-- TagLaws: the tag of a key
pub mod TagLaws
-- RepeatLaws: the search for a repeated key
pub mod RepeatLaws
