-- Laws of the chain, and rows computed from the definitions.
pub mod Within
pub mod Rows
