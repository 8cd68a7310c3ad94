-- What placing one segment asks for, and what it leaves.
pub mod Results
pub mod Conditions
