pub mod InRows
pub mod Demands
pub mod LookedUp
pub mod Coincide
