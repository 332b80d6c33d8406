pub mod FormNames
pub mod Forms
pub mod Literals
pub mod Expressions
