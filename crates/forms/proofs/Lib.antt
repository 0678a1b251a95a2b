pub mod Lookup
pub mod Found
