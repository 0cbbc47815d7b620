pub mod Sessions
pub mod Replying
