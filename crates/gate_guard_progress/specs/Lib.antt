-- What the contracts of this crate cite. For a reader, in this order:
--     Standing   where the bot stands after a host has told it more, by which the laws of progress carry over
--     Arriving   what a host tells of a batch, and that its commit comes onto the main branch
--     Starting   what becomes of deliveries that a host hands in again
--     Journals   a host that writes down what it does, and may stop at any moment
pub mod Arriving
pub mod Journals
pub mod Standing
pub mod Starting
