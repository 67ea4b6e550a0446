-- What the contracts of this crate cite. For a reader, in this order:
--     Courses    that the first in service lands
--     Turns      which batches are served before one that waits
--     Coming     that what waits comes to run
--     Halving    what each failure of a batch comes to
--     Finding    that a change is found which makes its batches fail
pub mod Coming
pub mod Courses
pub mod Finding
pub mod Halving
pub mod Turns
