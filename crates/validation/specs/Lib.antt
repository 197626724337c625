pub mod Verdict
pub mod WellFormed
pub mod Inhabited
pub mod Exact
