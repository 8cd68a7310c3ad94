-- What the contracts of the counters cite.
pub mod Counts
