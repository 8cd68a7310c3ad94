-- What placing all segments of an image asks for, and what it leaves.
pub mod All
