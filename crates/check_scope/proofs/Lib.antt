pub mod Columns
pub mod Divided
pub mod Flat
pub mod InRange
pub mod Walks
pub mod Operands
