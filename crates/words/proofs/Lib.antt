pub mod Shifts
pub mod Masks
pub mod Orders
pub mod Places
