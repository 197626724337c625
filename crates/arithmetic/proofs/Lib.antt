pub mod Table
pub mod Agreement
pub mod Bounds
pub mod Lookup
