pub mod Nodes
pub mod Batches
pub mod Images
pub mod Sound
pub mod Messages
pub mod Phases
pub mod Counting
pub mod Matching
