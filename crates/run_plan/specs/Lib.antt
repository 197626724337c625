pub mod Valid
pub mod Plans
