pub mod Targets
pub mod Undoing
pub mod Clearing
