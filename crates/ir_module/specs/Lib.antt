pub mod Empty
pub mod Operands
pub mod PreEmitted
