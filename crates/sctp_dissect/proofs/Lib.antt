pub mod Walk
pub mod Packet
pub mod ParamWalk
pub mod CauseWalk
