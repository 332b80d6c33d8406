pub mod Joins
pub mod GlobalRoots
pub mod Walk
pub mod Uses
