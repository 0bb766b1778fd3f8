pub mod Again
pub mod Examples
pub mod Rewritten
