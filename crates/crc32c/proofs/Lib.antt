pub mod Shifts
pub mod Fours
pub mod Rows
pub mod Chunks
pub mod Examples
