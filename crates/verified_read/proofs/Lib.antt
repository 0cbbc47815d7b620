pub mod CallerLemmas
pub mod Opened
pub mod Places
pub mod Verdicts
