-- In this order: what happens on connections and what that says of each (`Events`), who waits and who is ready (`Room`), what each call
-- makes of that (`Calls`), how long nobody is next (`Pauses`), and whose turn it is (`Turns`).
pub mod Calls
pub mod Events
pub mod Pauses
pub mod Room
pub mod Turns
