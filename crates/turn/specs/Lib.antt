-- The words of pointers that turn.
pub mod Turn
