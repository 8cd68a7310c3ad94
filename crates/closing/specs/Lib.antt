-- "All tills at closing" (§7).
pub mod Closing
pub mod Singly
