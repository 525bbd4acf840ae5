pub mod Written
pub mod Paper
-- Between: what functions promise each other
pub mod Between
