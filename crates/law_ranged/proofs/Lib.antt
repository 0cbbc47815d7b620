pub mod Sized
pub mod Recorded
pub mod Bounded
pub mod Served
pub mod Opened
pub mod Nodal
pub mod Scheduled
pub mod Along
