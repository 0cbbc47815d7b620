pub mod Rising
pub mod Choices
pub mod Seams
