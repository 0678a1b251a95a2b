pub mod Moves
pub mod Pushes
