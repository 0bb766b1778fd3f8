-- Lemmas on a pending queue.
pub mod Order
pub mod Front
pub mod Waiting
pub mod CompleteMessages
