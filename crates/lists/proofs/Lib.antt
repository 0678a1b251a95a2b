pub mod Sequence
pub mod Lower
pub mod Frame
pub mod Adds
pub mod Laid
pub mod Runs
