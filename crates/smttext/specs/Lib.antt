pub mod Fill
pub mod Names
pub mod Terms
pub mod Text
pub mod Examples
pub mod Subset
