pub mod EntrySteps
pub mod Starts
pub mod InterfaceSteps
pub mod UsedGlobals
pub mod EntryGlobals
pub mod Groups
