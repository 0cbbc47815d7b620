pub mod Tests
pub mod Lists
pub mod Each
pub mod Members
pub mod SameRoots
