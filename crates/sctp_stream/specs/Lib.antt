pub mod Stats
pub mod State
pub mod Stream
pub mod Lending
pub mod Numbers
