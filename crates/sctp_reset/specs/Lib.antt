pub mod Requests
pub mod Own
pub mod Peer
pub mod Runs
pub mod Agreement
