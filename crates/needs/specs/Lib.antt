pub mod Needed
pub mod Laws
pub mod Passing
