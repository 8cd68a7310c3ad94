-- Laws of the searches and of the free cells.
pub mod Searches
pub mod Free
pub mod Rest
pub mod Chunked
