pub mod Opening
pub mod Phases
pub mod Asking
pub mod Standing
