pub mod Kept
mod Sending
mod Beginning
pub mod Along
pub mod Running
