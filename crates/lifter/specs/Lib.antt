pub mod Apply
pub mod Lift
