-- How the code does it: no public promise rests on this.
pub mod Keys
