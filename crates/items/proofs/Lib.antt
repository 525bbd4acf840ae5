-- PlacesLaws: one step of a scanner at a place; one place after another
pub mod PlacesLaws
-- StoreLaws: bytes put into a store
pub mod StoreLaws
-- StringPartStepLaws, StringPartEscapeLaws, StringPartCharLaws, StringPartQuotedLaws, StringPartLinesLaws: a string part, from single steps to the multiline
-- part
pub mod StringPartStepLaws
pub mod StringPartEscapeLaws
pub mod StringPartCharLaws
pub mod StringPartQuotedLaws
-- StringPartBlockLaws: blocks of plain bytes
pub mod StringPartBlockLaws
pub mod StringPartLinesLaws
-- BinaryPartLaws: binary parts
pub mod BinaryPartLaws
-- SpellingLaws: words
pub mod SpellingLaws
-- IdentifierLaws: identifiers
pub mod IdentifierLaws
-- NumberOrTimeLaws: the scanner over a text, from a place on
pub mod NumberOrTimeLaws
-- NumberDigitLaws: what the loops over digits keep
pub mod NumberDigitLaws
-- NumberSettleLaws: where a number ends
pub mod NumberSettleLaws
-- NumberDecimalLaws: the parts of a decimal number
pub mod NumberDecimalLaws
-- NumberPlainLaws: plain digits
pub mod NumberPlainLaws
-- NumberHexLaws: hexadecimal numbers
pub mod NumberHexLaws
-- NumberOrTimeFirstLaws: words, a sign, the first byte
pub mod NumberOrTimeFirstLaws
-- NumberOrTimeLeadLaws: digits with no sign
pub mod NumberOrTimeLeadLaws
-- TimeValueLaws: the fields of a time value
pub mod TimeValueLaws
-- NumberOrTimeAnswerLaws: what an answer of `numeric` says
pub mod NumberOrTimeAnswerLaws
