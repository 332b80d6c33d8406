pub mod Sizes
pub mod LeafInfos
pub mod Parts
pub mod Arrays
pub mod Structs
pub mod ComputedInfos
