-- What functions of this crate promise each other, and what that is said with. Nothing here has to be believed.
pub mod Laid
pub mod Pieces
pub mod Walk
