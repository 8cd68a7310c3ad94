-- What the judges' contracts cite.
pub mod Judge
