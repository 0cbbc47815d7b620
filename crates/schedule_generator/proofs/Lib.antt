pub mod Rounds
pub mod Limited
pub mod Samples
