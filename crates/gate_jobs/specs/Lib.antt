-- What the contracts of this crate cite. What words ask for is told in gate_words. For a reader, in this order:
--     Explaining   what is told if words ask for no job
--     Report       the report of an input
--     Accepting    connections, one after the other, and what is known of them
--     Serving      what is done with them
--     Log          the line of a request in a log
--     Outcome      the exit status, and the line on standard error
pub mod Accepting
pub mod Explaining
pub mod Log
pub mod Outcome
pub mod Report
pub mod Serving
