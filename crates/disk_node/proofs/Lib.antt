pub mod Readable
pub mod Answering
pub mod Fresh
pub mod Uniform
pub mod Formatted
