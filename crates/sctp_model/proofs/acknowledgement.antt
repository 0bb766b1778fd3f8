pub mod Acknowledged
pub mod Bytes
pub mod BytesAnswered
