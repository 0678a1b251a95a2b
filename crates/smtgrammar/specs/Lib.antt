pub mod State
pub mod Present
pub mod Allowed
pub mod Tokens
pub mod Next
pub mod Grammar
pub mod Rows
