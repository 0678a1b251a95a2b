pub mod Passes
pub mod Said
pub mod Subset
