pub mod Pipeline
pub mod Standing
