-- The module of the crate's proofs.
pub mod Wanted
