pub mod Asked
pub mod Rising
pub mod Left
pub mod Underway
pub mod Heads
pub mod Few
pub mod Marked
