-- What the contracts of this crate cite. For a reader, in this order:
--     Vocabulary the words that the others are written in
--     Machine    the rules of facts, what each act does to the desk and the queue, its orders, and a step
--     Judging    what is judged of an act before it steps
--     States     that each act leads from a state to a state
--     Following  what each deed on a change does to the batches, one by one
--     MayChange  which people, changes and batches an act may change, and that all others stay as they are
--     Progress   what the machine comes to, and not only what it never does
--     Before     what is noted of a state before acts change it
--     History    the events of a history, what they say of people and changes, and what one more entry tells
--     Words      what the words of the history come to over a whole list
-- For private clauses: Touching, the numbers of the batches that an act may change, as lists.
pub mod Before
pub mod Following
pub mod History
pub mod Judging
pub mod Machine
pub mod MayChange
pub mod Progress
pub mod States
pub mod Touching
pub mod Vocabulary
pub mod Words
