pub mod Dissection
pub mod Params
pub mod Causes
