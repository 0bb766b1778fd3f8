pub mod Names
pub mod PayloadData
pub mod PayloadTypes
pub mod Reliability
pub mod ChunkSet
pub mod SelectiveAck
pub mod ForwardTsn
