pub mod Message
pub mod Side
