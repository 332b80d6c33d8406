pub mod ReadOperations
pub mod ReadLeaves
pub mod Statements
