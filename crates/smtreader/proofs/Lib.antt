pub mod Seek
pub mod Bounds
pub mod Ranks
pub mod Filled
pub mod Lines
