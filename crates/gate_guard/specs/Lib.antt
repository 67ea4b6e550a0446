-- What the contracts of this crate cite. For a reader, in this order:
--     Knowing    what is known after what the bot was told
--     World      how the main branch moves, and what is supposed of the world
--     Moves      what is promised of each move that the host makes
--     Duties     what a host has to do, by the state of the bot
--     Due        what is promised of that
pub mod Due
pub mod Duties
pub mod Knowing
pub mod Moves
pub mod World
