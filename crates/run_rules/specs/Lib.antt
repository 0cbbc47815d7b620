pub mod Knowing
pub mod Running
pub mod Serving
pub mod Run
pub mod Calm
pub mod Rooms
