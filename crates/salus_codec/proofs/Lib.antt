pub mod OneSpelling
pub mod Formats
pub mod Stepwise
