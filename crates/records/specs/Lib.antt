pub mod Reading
pub mod Format
pub mod Numbers
-- how the code does it: no public promise rests on this
pub mod Inside
