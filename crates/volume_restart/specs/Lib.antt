pub mod Answers
pub mod Restarting
pub mod Choosing
