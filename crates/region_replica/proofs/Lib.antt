pub mod Apart
pub mod Rising
pub mod Ascending
pub mod PartTelling
pub mod KeptTurns
pub mod DueAsks
pub mod LeadingOn
pub mod PartWays
