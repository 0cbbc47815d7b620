pub mod Views
pub mod Replicas
pub mod Voting
pub mod Leading
pub mod Nodes
pub mod Rules
