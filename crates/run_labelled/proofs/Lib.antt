pub mod Parts
pub mod Turning
pub mod Marking
pub mod OneTurn
