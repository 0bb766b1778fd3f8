pub mod Alone
pub mod Carried
pub mod InPlace
pub mod Strict
pub mod Walk
