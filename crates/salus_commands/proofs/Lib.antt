pub mod Runs
pub mod Sources
pub mod Worded
pub mod Spelled
pub mod Complete
pub mod Commanded
pub mod Disked
