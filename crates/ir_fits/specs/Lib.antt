pub mod OfTypes
pub mod OfGlobals
pub mod OfFunctions
pub mod OfEntries
pub mod Laws
