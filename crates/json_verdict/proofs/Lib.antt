pub mod Cut
pub mod Ended
pub mod Kept
pub mod Misfits
pub mod Told
