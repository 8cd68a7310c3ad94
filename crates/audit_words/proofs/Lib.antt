pub mod Pointers
pub mod Positions
pub mod Disjoint
pub mod Records
pub mod Free
pub mod Ands
pub mod Chunks
