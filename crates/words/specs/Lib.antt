pub mod Wide
pub mod Tests
pub mod Bytes
