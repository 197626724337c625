pub mod Tallies
pub mod Moves
pub mod Recounting
pub mod LabelWords
pub mod Filling
pub mod Known
