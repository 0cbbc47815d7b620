pub mod Accounting
pub mod Leading
pub mod Knowing
pub mod Acknowledging
pub mod Handling
pub mod Session
