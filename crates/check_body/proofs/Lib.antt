pub mod Walk
pub mod LoopBody
pub mod Tables
pub mod PreEmitted
pub mod Each
