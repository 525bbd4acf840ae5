-- What functions of this crate promise each other, and what that is said with. Nothing here has to be believed.
-- What the public calls promise.
pub mod Putting
pub mod Standing
pub mod Judging
-- What the functions below them promise their callers.
pub mod Shapes
pub mod Turns
pub mod Key
