-- What the contracts of this crate cite. For a reader, in this order:
--     Database    the nine tables, and how a row of one is read
--     Forms       the rows of a table as records
--     Contents    what rows and what answers a database has
--     Schemas     the versions of the schema, and which tables a database has
--     Tables      the same of a connection, and when it may be relied on
--     Keys        the key of a row
--     Apart       items with keys of their own
--     Applied     what row changes make of rows
--     Differences the row changes that lead from rows to others
-- For the code: Calls, the words of private clauses; Faults; Answers, Batches, Changes, Desk, Marks, Members, People, Statuses, Wanted,
-- the statements on each table; Casts, Creation, Effects, Kept, Known, Texts, what statements do; Plain, which schemas are compared.
pub mod Answers
pub mod Apart
pub mod Applied
pub mod Batches
pub mod Calls
pub mod Casts
pub mod Changes
pub mod Contents
pub mod Creation
pub mod Database
pub mod Desk
pub mod Differences
pub mod Effects
pub mod Faults
pub mod Forms
pub mod Kept
pub mod Keys
pub mod Known
pub mod Marks
pub mod Members
pub mod People
pub mod Plain
pub mod Schemas
pub mod Statuses
pub mod Tables
pub mod Texts
pub mod Wanted
