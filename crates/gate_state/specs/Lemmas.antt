-- THE LAWS OF LANES, proved: what the laws of service and of changes say, and the steps to it. For proofs of this crate and of
-- those above.
pub mod Alone
pub mod Apart
pub mod Counts
pub mod InOrder
pub mod Numbers
pub mod Service
