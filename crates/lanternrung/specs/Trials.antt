-- What the promises are tried with: a reader may see by them that the definitions say what docs/FORMAT.md says; nothing
-- rests on them.
-- Samples: the stated cases and the slips
pub mod Samples
-- Impostors: wrong programs that the promises rule out
pub mod Impostors
