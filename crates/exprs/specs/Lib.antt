pub mod Nodes
pub mod Formats
pub mod Slots
pub mod Image
pub mod Operations
pub mod Status
