pub mod Emit
pub mod Control
pub mod Switch
pub mod Call
pub mod walk
