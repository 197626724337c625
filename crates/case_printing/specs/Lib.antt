pub mod Text
pub mod Appended
pub mod Outcome
pub mod Room
