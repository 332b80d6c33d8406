pub mod ReadImages
pub mod ReadSpaces
pub mod Bindings
pub mod ReadTypes
