-- What follows of a demand that is met.
pub mod Laws
