pub mod Faulting
pub mod Beginning
pub mod Room
pub mod Opening
