pub mod Shown
pub mod Calls
pub mod ByteOrder
