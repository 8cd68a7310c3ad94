-- What the steps ask and leave, and the limit.
pub mod Limit
pub mod Steps
