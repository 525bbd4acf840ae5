-- Two's complement.
pub mod LittleEndianSignLaws
-- The rules of a record's own fields, as their tests say them.
pub mod FieldsRangeLaws
-- Put: where there is room, and where there is none; one piece after the other.
pub mod PuttingLaws
-- Numbers in bytes, as the code puts and gets them.
pub mod LittleEndianLaws
-- A record's four numbers: they make its bytes, and they are of no other record.
pub mod ShapesLaws
-- The record at an index, by its four numbers.
pub mod LookingLaws
-- What the record at an index does to the judge, by its four numbers.
pub mod TurnsLaws
-- A machine that reads records.
pub mod JudgingMachineLaws
-- It takes the records of every meaning that is not too deep.
pub mod JudgingCompleteLaws
-- What it says yes to are the records of a meaning.
pub mod JudgingSoundLaws
-- Well formed is what it says yes to, where each record stands by itself.
pub mod JudgingWholeLaws
-- The code's numbers and the machine's states.
pub mod JudgingStateLaws
-- Keys by their bytes.
pub mod KeyLaws
-- The events of records.
pub mod KeyEventsLaws
-- A pass, record by record.
pub mod KeyWalkLaws
-- Windows, one after the other.
pub mod KeyWindowLaws
-- Well formed is formed, with no repeated key.
pub mod JudgingOnceLaws
-- Two outcomes that a promise allows are equal; and what the calls answer of each other.
pub mod Outcomes
