pub mod Distinct
pub mod Made
pub mod Texts
