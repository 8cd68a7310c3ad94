-- A position's content, from its cell's bytes; a record's digest, and whether it can match.
pub mod Content
pub mod Digests
pub mod Lets
