pub mod DataChunks
pub mod Turns
pub mod Ascending
pub mod Window
pub mod Runs
