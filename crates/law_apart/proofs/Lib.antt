pub mod Unasked
pub mod Phases
pub mod Strings
pub mod Along
