-- Prefixes: from a bound on a count to what a part of that length asks
pub mod Prefixes
