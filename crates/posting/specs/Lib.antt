pub mod Posting
pub mod Sendings
pub mod Letters
