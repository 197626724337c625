pub mod Appending
pub mod Digits
pub mod Lengths
pub mod Lines
