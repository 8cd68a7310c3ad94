-- A placing undone.
pub mod Undo
