pub mod Bringing
pub mod Standing
pub mod Stepping
