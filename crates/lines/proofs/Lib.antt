pub mod LineLaws
pub mod Coincide
