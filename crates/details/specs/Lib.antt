pub mod Takes
pub mod Why
-- how the code does it: no public promise rests on this
pub mod Inside
