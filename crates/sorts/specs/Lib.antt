pub mod Sorts
pub mod Lists
pub mod Check
pub mod Good
pub mod Laws
