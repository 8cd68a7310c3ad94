-- Laws for the segments that are brought: a record's content put together, prints beside their segments, and what is had.
pub mod Contents
pub mod Records
pub mod Prints
pub mod Had
