pub mod Integers
pub mod Operations
pub mod LeftOpen
pub mod Manual
