pub mod Adds
pub mod Pushed
