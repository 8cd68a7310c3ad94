-- Laws of the definition, and what it computes.
pub mod Absorb
pub mod Messages
pub mod Vectors
