pub mod Site
pub mod Memory
