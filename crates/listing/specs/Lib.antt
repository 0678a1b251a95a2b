pub mod Run
-- how the code does it: no public promise rests on this
pub mod Inside
pub mod Text
pub mod Listing
pub mod Enough
pub mod Longest
