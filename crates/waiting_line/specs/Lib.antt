pub mod Heading
pub mod Meant
