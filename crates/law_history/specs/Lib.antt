pub mod Showing
pub mod Handing
pub mod Choosing
pub mod Keeping
