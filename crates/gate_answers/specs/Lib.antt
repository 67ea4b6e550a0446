-- What the contracts of this crate cite. For a reader, in this order:
--     Answers    the text of an answer
--     Limits     which answers there are
--     Reading    the answer of a text
-- Found is for private clauses: what is looked up in a JSON value.
pub mod Answers
pub mod Found
pub mod Limits
pub mod Reading
