-- Rows computed from the definitions.
pub mod Steps
pub mod Rows
