pub mod Places
pub mod Pieces
pub mod Filling
pub mod Laws
pub mod Coincide
