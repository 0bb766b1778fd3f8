pub mod Joined
pub mod Aligned
pub mod Changes
pub mod Opening
pub mod Taking
