pub mod Rows
pub mod Steps
pub mod Nodes
pub mod Stack
pub mod Valid
