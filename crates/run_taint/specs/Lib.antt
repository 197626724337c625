pub mod Taint
