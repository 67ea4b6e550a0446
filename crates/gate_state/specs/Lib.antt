-- What the contracts of this crate cite. For a reader, in this order:
--     Acts       which change an act is about, and the limits that it keeps
--     Words      the name of each branch, of each reason and of what a status says, and what has a name
--     State      what every state keeps
--     Lanes      the batches of a branch in order of service, and what is done to them
--     Queue      the batches of both branches, and the next number
--     Room       how many numbers are left for new batches
--     Counts     how often a change or a number is in batches
--     Service    the order of service over a whole list
--     Checks     what every state keeps as tests, for a state whose parts come from elsewhere
-- For proofs of this crate and of those above: Lemmas, the laws of service and of changes, proved.
pub mod Acts
pub mod Checks
pub mod Counts
pub mod Lanes
pub mod Lemmas
pub mod Queue
pub mod Room
pub mod Service
pub mod State
pub mod Words
