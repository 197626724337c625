pub mod Labels
pub mod Journal
