pub mod Nodes
pub mod Fields
pub mod Written
pub mod Levels
pub mod Numbers
