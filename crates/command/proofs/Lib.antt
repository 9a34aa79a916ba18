pub mod CommandLaws
pub mod Coincide
