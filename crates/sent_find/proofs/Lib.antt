-- The numbers that one record puts, and those that all of them leave.
pub mod Numbers
pub mod Finding
