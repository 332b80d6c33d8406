pub mod Document
pub mod Ids
pub mod Whole
pub mod ReadsDocument
