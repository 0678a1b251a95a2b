pub mod Flat
pub mod Answers
pub mod Lifts
pub mod Steps
pub mod Values
pub mod Texts
