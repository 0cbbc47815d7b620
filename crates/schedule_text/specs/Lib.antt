pub mod Reading
pub mod Outcome
pub mod Grammar
pub mod Limits
pub mod Printing
