-- Laws of placing all segments.
pub mod Keeping
pub mod Marked
pub mod Rest
pub mod Along
pub mod Answered
