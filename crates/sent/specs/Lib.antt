-- "Sending only what the box lacks" (§5).
pub mod Sent
pub mod Claims
pub mod Found
