-- What the contracts of this crate cite. For a reader, in this order:
--     Text       how duties and the answer to a delivery are written
--     Lines      what is written for the lines that were read, and what a fault leaves
--     Serving    what each step of that says, for private clauses
pub mod Lines
pub mod Serving
pub mod Text
