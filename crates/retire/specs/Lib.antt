-- What the steps of a retire say.
pub mod Answers
