pub mod Owing
pub mod Turning
