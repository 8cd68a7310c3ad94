-- Laws that the proofs of the functions use.
pub mod Blank
pub mod Matching
pub mod Fitting
pub mod Copying
