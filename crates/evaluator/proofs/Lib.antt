pub mod Filled
pub mod Column
pub mod Node
pub mod Ends
pub mod Compare
pub mod Flags
