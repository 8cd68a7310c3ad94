-- Laws of undoing.
pub mod Undoing
