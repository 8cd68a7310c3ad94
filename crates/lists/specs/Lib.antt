-- Functions on lists that definitions and contracts are made of. No word of a store.
pub mod Lists
pub mod Rows
pub mod Each
pub mod Masks
pub mod Written
pub mod Walk
pub mod Marks
pub mod Decides
pub mod Search
