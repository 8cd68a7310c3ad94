-- Laws of a record's row and of a segment's mask.
pub mod Cells
pub mod Marks
pub mod Rowing
