-- The form of a document: what its values stand for.
pub mod Functions
pub mod EntryPoints
pub mod Errors
pub mod Facts
pub mod Modules
