pub mod Counting
pub mod Removing
pub mod Steps
