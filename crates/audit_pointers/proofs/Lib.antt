pub mod Positions
pub mod Slots
