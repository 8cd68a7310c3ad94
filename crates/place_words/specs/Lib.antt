-- What a search answers, and which blocks of a segment are stored.
pub mod Words
pub mod Marks
