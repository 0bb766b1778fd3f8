pub mod Hmac
pub mod Cookie
