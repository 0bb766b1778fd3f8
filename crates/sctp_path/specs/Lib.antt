pub mod Rto
pub mod Congestion
pub mod Timers
pub mod Heartbeats
