-- Lemmas on a payload queue.
pub mod Ends
pub mod Gaps
pub mod Marked
pub mod Offsets
pub mod Outstandings
pub mod Payloads
pub mod Search
pub mod Between
pub mod Deadlines
pub mod Passed
pub mod Places
