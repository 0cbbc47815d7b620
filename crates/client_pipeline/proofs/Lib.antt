pub mod Posted
pub mod Submitted
pub mod Underway
