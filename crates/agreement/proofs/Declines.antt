-- What a declined lift says.
pub mod Said
