pub mod Demands
pub mod Listed
pub mod AsRead
