pub mod Lists
pub mod Emits
pub mod Calls
pub mod Values
pub mod Rising
pub mod Kept
pub mod ValueSets
