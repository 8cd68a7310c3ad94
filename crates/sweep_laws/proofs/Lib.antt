pub mod Walks
pub mod Frees
pub mod Removes
pub mod Results
pub mod Sweeps
pub mod Named
