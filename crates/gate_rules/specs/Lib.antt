-- What the contracts of this crate cite. For a reader, in this order:
--     Rules    what the rules read (`Look`), the levels, and each act's row of rules with the first that fails
--     View     the desk as finite maps, what each setter does to it, and how the rules see it
--     Words    the number and the name of each rule, the name of each level, and what has a name
-- For private clauses: Heads, an index of the open changes by their heads.
pub mod Heads
pub mod Rules
pub mod View
pub mod Words
