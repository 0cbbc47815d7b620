pub mod Window
pub mod Untagged
pub mod Standing
pub mod Answering
pub mod Written
pub mod Parting
pub mod Viewing
