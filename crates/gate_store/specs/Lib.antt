-- What the contracts of this crate cite. For a reader, in this order:
--     Headline   what is promised over every list of deliveries, in three sentences
--     Run        the records, what deliveries are answered one after the other, the records after them, and the faults
--     Looking    what a look at the gate shows
--     Leading    where a call of the keeper leads: the records, the acts, and the faults
--     Calls      what a call on a book says besides its result
--     Performing what a book is told of a delivery that acted
--     Premise    what becomes of the premise of a book over a call
--     Outlasting the same, as a clause of each call
-- For private clauses: Logged.
pub mod Calls
pub mod Headline
pub mod Leading
pub mod Logged
pub mod Looking
pub mod Outlasting
pub mod Performing
pub mod Premise
pub mod Run
