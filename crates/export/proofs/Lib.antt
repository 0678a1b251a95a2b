pub mod Places
pub mod Calls
pub mod Texts
pub mod Lifting
