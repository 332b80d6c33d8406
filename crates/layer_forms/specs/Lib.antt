pub mod OperatorForms
pub mod Vectors
pub mod Casts
pub mod MathForms
pub mod ImageForms
