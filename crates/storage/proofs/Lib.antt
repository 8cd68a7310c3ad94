pub mod Read
pub mod Changes
pub mod Inside
pub mod Along
pub mod Row
pub mod Free
