pub mod Stored
pub mod Fits
