pub mod Fronts
pub mod Pooled
pub mod Tagged
pub mod Stands
pub mod Along
