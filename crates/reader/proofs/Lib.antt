pub mod StoredEntries
pub mod Loads
