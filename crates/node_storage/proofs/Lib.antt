pub mod Steps
pub mod Single
