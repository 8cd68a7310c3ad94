pub mod Storage
pub mod Newest
pub mod Placed
