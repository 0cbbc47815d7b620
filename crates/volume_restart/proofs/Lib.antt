pub mod Ordering
pub mod Chosen
pub mod Tables
pub mod Next
pub mod Holding
pub mod Falling
