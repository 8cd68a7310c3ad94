pub mod Storage
pub mod Slots
pub mod Pointers
pub mod Records
