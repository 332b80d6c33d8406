pub use Rattle.ir_facts.specs.Answers.{Right, FirstOf, Exactly, Finds, Answers, read_by}
pub use Rattle.ir_facts.specs.Lawful.{IsNoStruct}
pub use Rattle.ir_facts.specs.Meaning.{Meaning, HasOneTypeEach, HasOneUseEach, HasTypesInRange, HasNoStructValues, HasOneKindEach}
pub use Rattle.check_variables.specs.AllowedUses.{allowed_use}
pub use Rattle.check_variables.specs.Globals.{global_points}
pub use Rattle.check_variables.specs.Locals.{local_points}
pub use Rattle.check_varyings.specs.BuiltIns.{built_in_rule}
pub use Rattle.check_varyings.specs.VaryingFaults.{VaryingFault, varying_fault_of}
pub use Rattle.check_varyings.specs.Varyings.{points_from, parts_of, seen_in, seen_with, nothing_seen, without_built_ins}
pub use Rattle.check_varyings.specs.Varyings.{StartsEmpty, PointsAreByPosition, LeavesTheNext, SeesLocationsAlone}
pub use Rattle.ir_facts.specs.Fits.{MemberCountFits}
pub use Rattle.check_varyings.specs.DistinctVaryings.{AcceptedHasNoLocationTwice, AcceptedHasNoBuiltInTwice}
pub use Rattle.ir_errors.specs.Names.{atomic_error_name, call_error_name, function_error_name, global_error_name}
pub use Rattle.ir_errors.specs.Names.{local_error_name, subgroup_error_name, varying_error_name}
