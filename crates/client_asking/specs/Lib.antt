pub mod Lining
pub mod Leaving
pub mod Underway
