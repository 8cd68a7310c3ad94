-- What the trial's contracts cite.
pub mod Bytes
