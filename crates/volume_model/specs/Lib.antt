pub mod Contents
pub mod Groups
pub mod Parts
pub mod Recovering
