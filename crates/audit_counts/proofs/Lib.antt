pub mod Counters
pub mod Pointers
pub mod Counts
pub mod Held
pub mod Rows
