-- The laws of the two passes, as the loops use them.
pub mod Passes
pub mod Marked
pub mod Shared
pub mod Billed
pub mod Stored
