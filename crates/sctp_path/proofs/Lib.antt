pub mod Examples
pub mod Doubling
