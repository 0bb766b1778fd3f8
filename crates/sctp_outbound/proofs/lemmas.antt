-- Lemmas: those of a type in the folder of its module.
pub mod outbound_queue
pub mod payload_queue
pub mod pending_queue
