-- "Storage billed to the tenth of a cent" (§14).
pub mod Bill
