-- Nothing here has to be believed.
pub mod Between
