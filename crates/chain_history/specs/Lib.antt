-- Demand 3 on a chain of stores.
pub mod Calls
pub mod Demand
