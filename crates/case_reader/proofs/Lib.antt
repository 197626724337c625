pub mod Storage
pub mod Feeding
pub mod Lines
