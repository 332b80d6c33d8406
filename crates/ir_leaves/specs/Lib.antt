pub mod Formats
pub mod EqualBuiltIns
pub mod EqualLeaves
