-- What contracts ask of a store: its capacities as numbers, and its buffers.
pub mod Ranges
pub mod Stores
pub mod Storage
