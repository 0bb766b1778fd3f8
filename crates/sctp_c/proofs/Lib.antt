pub mod AnyRows
mod DataOut
pub mod Deadlines
mod DataSent
pub mod Filling
pub mod Forwards
pub mod InPlace
pub mod Leaving
pub mod Messages
pub mod Places
pub mod ReceiverBox
pub mod OwnParams
pub mod Resets
pub mod Rows
pub mod Sacks
pub mod Padded
pub mod Noted
pub mod SenderBox
pub mod Tails
pub mod Writes
pub mod Written
