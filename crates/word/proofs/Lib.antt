pub mod Sums
pub mod Digits
pub mod Powers
pub mod Laws
pub mod Shifts
pub mod ByteOrder
pub mod Tests
pub mod Stores
