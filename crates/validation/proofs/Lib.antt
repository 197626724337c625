pub mod Walk
pub mod WellFormed
pub mod Inhabited
pub mod Exact
