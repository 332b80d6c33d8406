pub mod Tree
pub mod View
pub mod Blocks
pub mod Operations
pub mod Subgroups
