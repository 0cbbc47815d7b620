pub mod CallerLemmas
pub mod Questions
pub mod Standing
pub mod Judged
