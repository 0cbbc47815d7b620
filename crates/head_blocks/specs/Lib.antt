pub mod Headed
pub mod Advancing
pub mod Weighing
pub mod Ending
