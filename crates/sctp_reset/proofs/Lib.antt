pub mod Splits
pub mod ExchangeExamples
pub mod OwnRuns
pub mod PeerRuns
pub mod Agreement
