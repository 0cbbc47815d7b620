pub mod Living
pub mod Lists
pub mod Folded
pub mod Written
pub mod Sizes
