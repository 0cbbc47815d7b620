pub mod Keeping
pub mod Serving
pub mod Leading
pub mod Answering
pub mod Turning
pub mod Asking
