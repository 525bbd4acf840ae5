-- What functions of this crate promise each other, and what that is said with. Nothing here has to be believed.
-- Posts: what the functions below the two public calls promise.
pub mod Posts
-- Tests: what a test promises.
pub mod Tests
-- Beside: what a byte may be beside the three before it, for the functions over blocks.
pub mod Beside
-- Decided: the first fault, and a date, as functions that compute.
pub mod Decided
