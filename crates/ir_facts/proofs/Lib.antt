pub mod Callers
pub mod Each
pub mod OtherOperands
pub mod Refusals
