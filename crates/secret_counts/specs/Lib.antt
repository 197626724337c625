pub mod Recount
pub mod Changes
pub mod Moved
pub mod Laws
