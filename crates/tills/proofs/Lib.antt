pub mod Cases
pub mod Days
