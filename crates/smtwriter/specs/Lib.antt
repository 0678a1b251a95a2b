pub mod Written
pub mod Inside
