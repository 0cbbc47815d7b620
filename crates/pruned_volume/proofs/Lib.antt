pub mod Growing
pub mod Renewing
