pub mod Stripe
pub mod Fit
pub mod Error
