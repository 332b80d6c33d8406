pub mod MisfitPoints
pub mod OfSignatures
pub mod FittingSignatures
pub mod OfExpressions
pub mod OfBodies
pub mod ShortFacts
