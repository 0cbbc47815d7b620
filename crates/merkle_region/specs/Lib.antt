pub mod Tree
pub mod Raised
pub mod Kept
