pub mod Top
pub mod Kept
