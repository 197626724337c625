pub mod Limits
pub mod Case
pub mod Buffers
pub mod Lines
pub mod Stream
