pub mod Steps
pub mod Waiting
pub mod Settling
pub mod Parties
