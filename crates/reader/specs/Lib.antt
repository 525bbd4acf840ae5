-- Answers: what `measure` and `read` promise
pub mod Answers
-- Between: what functions promise each other
pub mod Between
