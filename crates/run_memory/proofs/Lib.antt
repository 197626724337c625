pub mod Spaces
pub mod Secrets
pub mod Relabelling
