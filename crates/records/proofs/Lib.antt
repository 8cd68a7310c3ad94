-- Laws of records as the code has them.
pub mod Records
pub mod Words
pub mod Unreferenced
