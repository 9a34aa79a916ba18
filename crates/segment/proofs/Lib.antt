pub mod Laws
pub mod Places
pub mod Rules
pub mod Same
pub mod Coincide
