pub mod Masks
pub mod Parts
pub mod Examples
