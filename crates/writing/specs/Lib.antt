pub mod Put
pub mod Fits
pub mod Sink
pub mod Bytes
pub mod Laws
