-- What a tally counts.
pub mod Answers
