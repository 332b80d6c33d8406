pub mod Memory
pub mod Pointers
pub mod Objects
