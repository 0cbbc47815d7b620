pub mod Split
pub mod Topped
