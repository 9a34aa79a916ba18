pub mod Ends
pub mod Coincide
