-- Told: what C is handed, the number and place of each answer, and the fields of a record.
pub mod Told
-- Claims: what is claimed of the public calls.
pub mod Claims
-- Trials: cases and wrong programs that the promises are tried with; nothing rests on them.
pub mod Trials
