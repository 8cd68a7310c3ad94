pub mod Slots
pub mod Tills
pub mod Whole
pub mod Ranges
pub mod Answers
