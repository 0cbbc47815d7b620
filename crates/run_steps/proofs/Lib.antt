pub mod Fronts
pub mod Stepping
pub mod Calming
pub mod Marking
pub mod Eventing
pub mod Sending
pub mod Making
