pub mod Acked
pub mod QuietSender
pub mod SackMade
pub mod Unacked
pub mod SackFrames
pub mod Reported
pub mod SackDistances
