-- A closing is single backups, and rows computed from the definitions.
pub mod Singly
pub mod Rows
