pub mod Known
pub mod Entries
pub mod Lines
pub mod Digits
pub mod Leads
pub mod Seconds
pub mod Dumps
pub mod Texts
pub mod Heads
pub mod Uppers
pub mod Frames
pub mod Tunnels
pub mod Tags
pub mod OptionSteps
pub mod BlockPieces
pub mod Pieces
mod Passing
