-- An image has one stream, and reading it gives the image; the reader's way step by step.
pub mod Ranges
pub mod Ways
pub mod Forward
pub mod Back
pub mod Steps
pub mod Theorems
