pub mod Laid
pub mod Printed
