-- What a lift of `fld` or `fstp` at 80 loads and stores.
pub mod Lifts
