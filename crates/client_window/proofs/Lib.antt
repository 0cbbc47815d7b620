pub mod Acking
pub mod Claiming
pub mod Due
pub mod Joined
pub mod Left
pub mod Rooted
pub mod Sized
pub mod Stepped
