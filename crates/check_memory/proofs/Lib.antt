pub mod ResultsInRange
pub mod Atomics
pub mod Stores
pub mod Loads
pub mod CooperativeStores
