pub mod Meaning
pub mod Causes
pub mod Live
pub mod Words
