-- What the keeper's contracts cite.
pub mod Notes
