-- The sums are exact, and rows computed from the definitions.
pub mod Exact
pub mod Rows
