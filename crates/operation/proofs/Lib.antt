pub mod Targets
pub mod Decoding
pub mod Numbers
