pub mod Grammar
pub mod Family
pub mod Runs
