-- What the contracts of this crate cite. For a reader, in this order:
--     SmallTexts    names, commits, change numbers, delivery identifiers: which texts each takes, and the first check that fails
--     Spaces        what it is to drop the spaces at either end
--     Arguments     the numbers and the lists of names that commands take
--     Grammar       what a comment says: a relation of whole texts
--     Limits        what everything keeps that a comment says
--     Settings      what the text of a `bors.toml` says, or why it is refused
-- For the code and the crates above: Reading, the grammar's one reading as a function from bytes; Steps, steps in order;
-- Finite, maps and sets of the code as finite maps and sets; LastWhere, the last item that passes a test; Same, equal settings; Values, a
-- test of each value of a map.
pub mod Arguments
pub mod Finite
pub mod Grammar
pub mod LastWhere
pub mod Limits
pub mod Reading
pub mod Same
pub mod Settings
pub mod SmallTexts
pub mod Spaces
pub mod Steps
pub mod Values
