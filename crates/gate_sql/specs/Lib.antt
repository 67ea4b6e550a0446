-- What the contracts of this crate cite. What rows and answers tables have is told in gate_tables, and of which state they are the
-- rows, in gate_rows. For a reader, in this order:
--     Shown       what a book over the tables shows, and that its tables hold nothing besides
--     Versions    what a database of a version of the schema stands for
--     Files       what a log and a database file stand for
-- For the code: Faults.
pub mod Faults
pub mod Files
pub mod Shown
pub mod Versions
