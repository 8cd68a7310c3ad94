-- Demand 3: the keeper of whole images, a list of calls, and what holds after it; then §10, and what §9 says of two histories. Read in this order.
pub mod Calls
pub mod Users
pub mod Keeper
pub mod Demand
pub mod Together
pub mod Apart
