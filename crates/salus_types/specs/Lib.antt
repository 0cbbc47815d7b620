pub mod Outcome
pub mod Volume
