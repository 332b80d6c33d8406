-- How the notation is read.
pub mod Stack
pub mod Trees
pub mod Turns
pub mod Complete
pub mod Sound
pub mod Made
pub mod Values
pub mod Tokens
pub mod Scan
pub mod Fed
pub mod Head
pub mod Whole
pub mod Sayable
