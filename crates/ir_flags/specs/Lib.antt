pub mod Bits
pub mod Capabilities
