pub mod Types
pub mod SpaceTests
pub mod Members
pub mod Unique
pub mod EqualTypes
pub mod TypeTests
pub mod TypeInfos
pub use Rattle.ir_types.specs.TypeTests.{is_same_type}
