pub mod Fitting
pub mod Adds
pub mod Answers
