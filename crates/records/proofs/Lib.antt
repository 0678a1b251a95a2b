pub mod Sequence
pub mod Letters
pub mod Leaves
