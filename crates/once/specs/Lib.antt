-- Table: a stack of slots, each bucket's slots in a chain
pub mod Table
-- Groups: the keys of the open objects
pub mod Groups
-- Objects: the keys that are taken in, for each open object
pub mod Objects
-- Hash: the tag of a key
pub mod Hash
-- Windows: the first key that repeats one of those taken in, and windows one after the other
pub mod Windows
-- Keeping: the table where a pass stands
pub mod Keeping
