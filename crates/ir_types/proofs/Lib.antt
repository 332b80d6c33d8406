pub mod TypeTests
pub mod Unique
