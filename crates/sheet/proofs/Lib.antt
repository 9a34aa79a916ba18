pub mod SheetLaws
pub mod Coincide
