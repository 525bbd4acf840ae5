-- One slot more, one less.
pub mod TableLaws
-- The header, and groups.
pub mod GroupsLaws
-- What a link tells.
pub mod GroupsChainLaws
-- A further key, and an empty table.
pub mod GroupsTakingLaws
-- What each call does, by the open objects.
pub mod ObjectsLaws
-- The tag of a key, byte by byte.
pub mod HashLaws
-- Windows one after the other.
pub mod WindowsLaws
-- How many objects are open.
pub mod WindowsLevelLaws
-- What each call does to a table that stands where a pass does.
pub mod KeepingLaws
-- The search for an earlier key.
pub mod KeepingSeekLaws
