-- Which records are compared with a segment.
pub mod Fit
