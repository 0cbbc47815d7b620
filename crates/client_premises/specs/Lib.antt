pub mod Premises
pub mod Behind
