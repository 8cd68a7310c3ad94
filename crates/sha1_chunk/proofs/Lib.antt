-- What the loops over the schedule and the rounds need.
pub mod Schedule
pub mod Rounds
