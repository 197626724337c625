pub mod Tainting
pub mod LabelWords
