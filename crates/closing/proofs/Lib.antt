pub mod ClosingLaws
pub mod Coincide
