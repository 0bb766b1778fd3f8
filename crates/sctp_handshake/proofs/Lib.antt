pub mod Exchanges
pub mod Steps
pub mod TicketBytes
pub mod InitSteps
pub mod InitExamples
pub mod Silence
