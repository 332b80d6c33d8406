pub mod Basis
pub mod Judges
pub mod Runs
pub mod walk
