-- JAXN's grammar: its ABNF as rules, a module for each section of the JAXN specification, in its order. A rule's type
-- is JAXN's name for it with a capital, a class of characters is JAXN's name as it is; where JAXN prints two rules
-- that differ only in the kind of quote, one rule takes the kind. Assumes nothing.

-- what holds only where the checks are on
pub mod Checks
-- characters as UTF-8, digits with their value, repetition (RFC 5234, RFC 3629)
pub mod Characters
-- Comments: comment, ws
pub mod Comments
-- Numbers: number, and which sign, coefficient and power it means
pub mod Numbers
-- Strings: string, its parts and escapes
pub mod Strings
-- Date / Time: time-value
pub mod Times
-- Binary Data: binary
pub mod Binary
-- Unquoted Object Keys: key, identifier
pub mod Keys
-- Trailing Comma: value, array, object, and the whole text
pub mod Values
-- which refusal a text is given, and where
pub mod Refused
