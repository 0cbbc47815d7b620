pub mod Words
pub mod Spelling
pub mod Refusing
pub mod Disks
pub mod Replaying
pub mod Statuses
pub mod Doing
