-- What the contracts of this crate cite. For a reader, in this order:
--     Columns   a text in a place of some width, and a line of a name and a value
--     Queue     the text of the queue: two lines, a heading, and a row for each batch
--     Change    the text of a change: ten lines
pub mod Change
pub mod Columns
pub mod Queue
