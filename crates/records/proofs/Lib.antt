pub mod RecordLaws
pub mod Coincide
