-- What the contracts of `PayloadQueue` cite.
pub mod Blocks
pub mod PayloadQueue
pub mod Places
