pub mod Remainder
pub mod Division
pub mod ByTable
pub mod ByRows
pub mod Laws
pub mod Coincide
