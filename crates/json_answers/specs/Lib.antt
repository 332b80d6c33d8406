pub mod VerdictIds
pub mod Status
pub mod Texts
pub mod VerdictJson
