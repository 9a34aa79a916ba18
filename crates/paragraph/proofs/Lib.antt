pub mod ParagraphLaws
pub mod Coincide
