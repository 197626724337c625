pub mod Opcodes
pub mod Operands
pub mod Result
