pub mod Mesh
pub mod Meaning
pub mod Laws
