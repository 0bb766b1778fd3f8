pub mod Stored
pub mod Marks
pub mod Outstanding
pub mod payload_queue
pub mod pending_queue
pub mod outbound_queue
