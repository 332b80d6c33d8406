pub mod Lines
pub mod Stream
