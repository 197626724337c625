pub mod Ways
pub mod Turn
pub mod Turns
