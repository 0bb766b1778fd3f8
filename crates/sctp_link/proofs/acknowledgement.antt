pub mod AckLoops
pub mod FlightAcked
pub mod StreamsLess
pub mod Rebased
pub mod Reporting
pub mod SackTaken
