-- Rows computed from the definitions.
pub mod Rows
