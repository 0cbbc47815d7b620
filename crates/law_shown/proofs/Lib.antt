pub mod Rereading
pub mod Formatting
pub mod Bringing
pub mod Along
