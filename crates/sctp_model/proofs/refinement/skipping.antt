pub mod Skips
pub mod SkipStep
pub mod SkipSpans
pub mod SkipsInTurn
pub mod StreamsAt
pub mod SkipFits
