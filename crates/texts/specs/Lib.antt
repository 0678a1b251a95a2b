pub mod Bytes
pub mod Letters
pub mod Places
