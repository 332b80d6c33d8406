pub mod Bench
pub mod Words
pub mod Text
pub mod Grammar
pub mod CaseBlocks
pub mod Head
pub mod Lookup
pub mod Case
pub mod Scanning
pub mod Sayable
pub mod Feeding
pub mod CaseParts
pub mod Reading
pub mod Views
pub use Rattle.case_notation.specs.Case.{HoldsBlock, Reads, case_of}
pub use Rattle.case_notation.specs.Sayable.{IsSayable}
