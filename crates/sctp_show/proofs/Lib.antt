pub mod Runs
pub mod Texts
mod Causes
mod Examples
