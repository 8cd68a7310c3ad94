pub mod Backup
pub mod Call
