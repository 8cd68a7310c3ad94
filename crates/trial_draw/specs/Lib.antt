-- What the contracts of drawn numbers cite.
pub mod Mixed
