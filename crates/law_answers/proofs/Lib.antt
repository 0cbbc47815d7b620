pub mod Rules
pub mod Asks
pub mod Turns
pub mod Parts
pub mod Reached
