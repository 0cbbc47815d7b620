pub mod Errors
pub mod Standing
pub mod Serving
pub mod Planning
pub mod Saying
