pub mod PageLaws
pub mod Coincide
