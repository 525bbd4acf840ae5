-- Which of 3 to 7 the machine refuses a text with, and where, by the grammar alone (grammar/specs/Refused); 1 and 2 in front.
-- Read `Whole` first: its theorems say it all. Assumes nothing.

-- Why the machine refuses: with 3, or an item of the text fails its check.
pub mod Reason
-- ---- an item of the bare grammar, its checks left out

-- With checks implies without.
pub mod Loose
-- The state of a string part after characters, as a function of their derivation.
pub mod Chars
-- An item is taken whole; then it ends, or its check fails.
pub mod Items
-- What a number or a time value does at a byte that it does not take.
pub mod Untaken
-- A text of the bare grammar is never refused with 3.
pub mod Bare
-- ---- from every state some bytes finish an item

-- A number or a time value, a binary part, an identifier.
pub mod Finishes
-- A string part; and what each byte does to one.
pub mod Parts
-- ---- where the machine stands

-- Where it refuses: at a byte, or at the text's end.
pub mod Refuses
-- What the bytes so far are, where a value, a key, a part or what may follow is expected.
pub mod Bases
-- What they are at each configuration; where it fails, why.
pub mod Confs
-- Binary parts, identifiers and words break with 3 only.
pub mod Only
-- 5 and 6, from the machine to the grammar.
pub mod NumericFault
-- 4, from the machine to the grammar.
pub mod EscapeFault
-- Each byte keeps what the bytes so far are; 7, from the machine to the grammar.
pub mod Reached
-- ---- 3

-- Where something is expected, some bytes finish a bare text.
pub mod Opens
-- What the machine lives after begins a bare text.
pub mod Viable
-- 3 is given where the text is stuck.
pub mod Stuck
-- A text is stuck at one place only, and nowhere if it is accepted.
pub mod Once
-- ---- faults

-- At the end too: every refusal has its reason.
pub mod AtEnd
-- Where the grammar says that bytes stand left of a spot, there the machine stands; 7, from the grammar to the machine.
pub mod Left
-- 5 and 6, from the grammar to the machine.
pub mod NumericGiven
-- 4, from the grammar to the machine.
pub mod EscapeGiven
-- All four.
pub mod Given
-- ---- the theorem, with 1 and 2 in front
pub mod Whole
