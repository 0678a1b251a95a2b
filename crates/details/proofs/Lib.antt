pub mod Operands
pub mod Shapes
