pub mod Placed
pub mod Marked
