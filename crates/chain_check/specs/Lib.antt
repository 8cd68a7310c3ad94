-- Where the stores of a chain lie.
pub mod Places
