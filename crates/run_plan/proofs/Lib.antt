pub mod Places
pub mod Opcodes
pub mod Planning
pub mod Pointers
pub mod Steps
pub mod Bounds
