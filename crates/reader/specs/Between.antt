-- What functions of this crate promise each other, and what that is said with. Nothing here has to be believed.
-- Scanning: the machine over a text, from a place on
pub mod Scanning
-- Layout: what the readers of layout promise
pub mod Layout
-- Joined: what the readers of strings, binary and keys promise
pub mod Joined
-- Spelling: what the functions promise that spell a key
pub mod Spelling
-- Repeat: what the search for a repeated key promises
pub mod Repeat
-- Cursor: what the cursor's methods promise
pub mod Cursor
-- Walk: what one walk over a text promises them
pub mod Walk
