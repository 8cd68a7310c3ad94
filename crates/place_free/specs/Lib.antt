-- What the searches answer.
pub mod Free
pub mod Found
