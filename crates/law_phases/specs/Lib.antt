pub mod Hearing
pub mod Moving
pub mod Opening
pub mod Fronts
pub mod Room
pub mod Ordered
pub mod Going
pub mod Letters
