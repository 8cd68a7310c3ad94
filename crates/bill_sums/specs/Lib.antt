-- What the bill's answer says, and what its two passes do.
pub mod Answers
pub mod Marks
