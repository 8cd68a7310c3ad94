-- Laws of placing one segment.
pub mod Cases
pub mod Undone
pub mod Results
pub mod Need
