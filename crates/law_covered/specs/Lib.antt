pub mod Claiming
pub mod Coverage
