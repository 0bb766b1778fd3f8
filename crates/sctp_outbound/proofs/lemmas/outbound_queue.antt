-- Lemmas on an outbound queue.
pub mod Abandoned
pub mod Messages
pub mod SideBySide
pub mod Outbounds
pub mod Sendable
pub mod Rest
pub mod Runs
