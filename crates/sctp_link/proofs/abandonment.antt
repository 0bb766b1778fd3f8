pub mod Expiring
pub mod Abandoning
