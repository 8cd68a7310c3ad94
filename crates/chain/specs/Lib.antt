-- "Several stores on one disk" (§8).
pub mod Chain
pub mod Limit
pub mod Calls
