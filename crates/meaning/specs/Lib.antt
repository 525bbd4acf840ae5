pub mod Letters
pub mod Limits
pub mod Meaning
pub mod Clock
pub mod Once
pub mod Good
pub mod Bytes
pub mod Tape
pub mod Canonical
pub mod Filed
pub mod Json
pub mod Paper
pub mod Look
-- Between: what functions promise each other
pub mod Between
