pub mod Links
pub mod Points
