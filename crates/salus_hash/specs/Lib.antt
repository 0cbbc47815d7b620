pub mod Hash
pub mod Hmac
