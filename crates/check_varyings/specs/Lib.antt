pub mod BuiltIns
pub mod CodeBuiltIns
pub mod BuiltInNumbers
pub mod SmallSets
pub mod Seen
pub mod Locations
pub mod VaryingFaults
pub mod Varyings
pub mod CodeVaryings
pub mod DistinctVaryings
pub use Rattle.check_varyings.specs.BuiltIns.{built_in_rule}
pub use Rattle.check_varyings.specs.VaryingFaults.{VaryingFault, varying_fault_of}
pub use Rattle.check_varyings.specs.Varyings.{points_from, parts_of, seen_in, seen_with, nothing_seen, without_built_ins}
pub use Rattle.check_varyings.specs.Varyings.{StartsEmpty, PointsAreByPosition, LeavesTheNext, SeesLocationsAlone}
