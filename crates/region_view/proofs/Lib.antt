pub mod Written
pub mod Putting
pub mod Bringing
pub mod Shaping
pub mod Trying
