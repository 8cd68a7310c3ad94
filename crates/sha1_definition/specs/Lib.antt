-- SHA-1 as RFC 3174 defines it.
pub mod Sha1
pub mod Chunks
