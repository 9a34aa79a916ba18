pub mod Laws
pub mod Coincide
pub mod Places
