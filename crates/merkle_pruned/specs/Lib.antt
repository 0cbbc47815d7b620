pub mod Subtree
pub mod Path
pub mod Tree
pub mod Node
