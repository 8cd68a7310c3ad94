pub mod Traces
pub mod Images
pub mod Restores
