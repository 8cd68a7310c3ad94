-- The starred day, proved from the definitions.
pub mod Steps
pub mod Blanks
pub mod Dates
pub mod Keys
pub mod Rules
pub mod Settings
pub mod Day
