pub mod Shapes
pub mod Products
pub mod Resolutions
