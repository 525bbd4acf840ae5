-- What functions of this crate promise each other, and what that is said with. Nothing here has to be believed.
pub mod Words
-- Events: what happens to keys, and the first that repeats one
pub mod Events
