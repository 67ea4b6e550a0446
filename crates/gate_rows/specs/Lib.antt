-- What the contracts of this crate cite. What rows tables have is told in gate_tables. For a reader, in this order:
--     Encoding    the rows of a state of the machine
--     Decoding    the state that rows stand for
--     Standing    the law of both: the rows of a state, in any order, stand for it
--     Changed     the rows that differ between two states, as row changes
--     Parts       the same between a state and one of which parts were noted before
--     FirstRows   the rows of schema version 1
-- For the code: Same, that `==` of rows is equality; InOrder, in which order rows are read; Words, how the
-- numbers in them are; Guess, small steps of the guess of a gate.
pub mod Changed
pub mod Decoding
pub mod Encoding
pub mod FirstRows
pub mod Guess
pub mod InOrder
pub mod Parts
pub mod Same
pub mod Standing
pub mod Words
