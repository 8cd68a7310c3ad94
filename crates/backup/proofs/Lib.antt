pub mod Tables
pub mod Filed
pub mod Answers
pub mod Tills
pub mod Joined
