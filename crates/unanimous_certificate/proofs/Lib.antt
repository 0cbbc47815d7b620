pub mod Placing
pub mod Grouped
pub mod Taken
