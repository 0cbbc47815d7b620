pub mod Halves
pub mod Leaf
pub mod Climbing
pub mod Opening
pub mod Meeting
pub mod Keeping
pub mod Side
pub mod Lawful
