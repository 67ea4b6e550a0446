-- What the contracts of this crate cite. For a reader, in this order:
--     Targets      what a path names, and the method that it takes
--     Tokens       which texts are a token, and which requests bear the one that is needed
--     Heads        the checks of the head of a request, in their order, and what is told of bytes that begin with one
--     Responses    a response as bytes, and which one a refusal has
-- Routes is of functions within the crate.
pub mod Heads
pub mod Responses
pub mod Routes
pub mod Targets
pub mod Tokens
