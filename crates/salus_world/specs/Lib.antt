pub mod Runs
pub mod Places
pub mod Growing
pub mod Kept
pub mod Refusing
pub mod Memory
