pub mod ExactTypes
pub mod ExactGlobals
pub mod ExactEntries
pub mod ExactFunctions
