-- What the contracts of this crate cite. Which texts are deliveries is told in gate_deliveries; heads of requests, and responses as bytes,
-- in gate_http. For a reader, in this order:
--     Lines        the lines of a text, and what is written for them, by the run and the answers of gate_store
--     Memory       the records with which a new book in memory begins
--     Told         the deliveries that lines and requests are, and the headline of what is written for them
--     Requests     what a request asks for, or why it is refused
--     Served       what is sent for one request, and the records after it; `ServesOne` has all that is told of it
--     Denials      the rule by which a request was denied, for a log
-- Of the other files public clauses cite `IsCutOff` (Sending), `IsInput`, `HasTaken`, `HasReadToken` and `IsEnough` (Receiving), and
-- `IsTranscript` (Responding), which cites `HasKept` (Receiving). A transcript is an `Exchange` (Exchanges). The rest is of functions
-- within the crate.
pub mod Denials
pub mod Exchanges
pub mod Lines
pub mod Memory
pub mod Receiving
pub mod Requests
pub mod Responding
pub mod Sending
pub mod Served
pub mod Serving
pub mod Sessions
pub mod Told
