pub mod Cases
pub mod Lent
