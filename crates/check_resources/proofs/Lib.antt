pub mod Images
pub mod ImageAtomics
pub mod RayQueries
pub mod RayTraces
