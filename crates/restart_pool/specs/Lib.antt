pub mod Latest
pub mod Following
pub mod Kept
pub mod Assembled
