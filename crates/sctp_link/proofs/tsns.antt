pub mod Placeholders
pub mod QueueCalls
pub mod TakenBack
pub mod ReceiverTsns
