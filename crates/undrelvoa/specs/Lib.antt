pub mod Buffers
pub mod Answers
pub mod Calls
pub mod ByteOrder
