-- Demand 3 on a chain, from the theorem about one store.
pub mod Puts
pub mod Steps
pub mod Demand
