-- What the contracts of this crate cite. For a reader, in this order:
--     Acts         the acts of an event
--     Deliveries   the delivery that a text is, or why it is none
--     Errors       the text of an error
pub mod Acts
pub mod Deliveries
pub mod Errors
