pub mod Served
pub mod Put
