pub mod Matches
pub mod Follows
pub mod Taken
