pub mod RecordLaws
pub mod Sealing
