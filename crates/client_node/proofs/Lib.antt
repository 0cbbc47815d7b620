pub mod EqualBlocks
pub mod Turning
pub mod Away
pub mod Opened
