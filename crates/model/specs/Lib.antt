-- The till version store of 01-scope.md: what every call answers and leaves, as definitions that compute. Read in this order.
pub mod Measures
pub mod State
pub mod Image
pub mod Records
pub mod Runs
pub mod Place
pub mod Turn
pub mod Sweep
pub mod Trace
pub mod Table
pub mod Sound
pub mod Calls
pub mod Rights
