pub mod Atomic
pub mod Store
pub mod Load
pub mod Cooperative
pub mod walk
