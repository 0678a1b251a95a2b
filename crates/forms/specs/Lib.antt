pub mod Operands
pub mod Names
pub mod Families
pub mod Shapes
pub mod Classify
pub mod Effects
pub mod Numbers
-- how the code does it: no public promise rests on this
pub mod Inside
