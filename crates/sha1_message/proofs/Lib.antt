-- What the loops over a message need, and its padding.
pub mod Loops
pub mod Ends
