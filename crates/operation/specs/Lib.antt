pub mod Spaces
pub mod Layout
pub mod Numbers
pub mod Rules
pub mod Decoding
