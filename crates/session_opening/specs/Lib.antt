pub mod Answered
pub mod Basing
pub mod Gathered
pub mod Fetched
pub mod Begun
pub mod Kept
pub mod Standing
pub mod Telling
