pub mod Products
pub mod Header
pub mod Bits
