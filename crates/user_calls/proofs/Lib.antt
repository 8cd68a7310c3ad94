pub mod Owner
pub mod Sent
