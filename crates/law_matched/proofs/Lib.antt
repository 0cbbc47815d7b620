pub mod Numbering
pub mod History
pub mod Matched
pub mod Sound
pub mod Reaching
pub mod Handing
pub mod Covered
