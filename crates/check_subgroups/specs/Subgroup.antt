-- What the check lists of subgroup statements share; then the list of SubgroupBallot.
use Rattle.std.specs.Prelude.{ℕ, Bool, true, false, List, [], ◌∷◌, ◌++◌, Option, None, Some}
use Rattle.ir_flags.specs.Bits as bit
use Rattle.ir_flags.specs.Bits.{contains}
use Rattle.ir_flags.specs.Capabilities as capability
use Rattle.ir_flags.specs.Capabilities.{has_capability}
use Rattle.ir_types.specs.Types.{inner_at, bool_scalar}
use Rattle.ir_module.specs.declared.expressions.Expression.{Expression}
use Rattle.ir_module.specs.declared.expressions.Expression.TheVariants as e
use Rattle.ir_leaves.specs.declared.scalars.ScalarKind.{ScalarKind}
use Rattle.ir_leaves.specs.declared.scalars.ScalarKind.TheVariants as kind
use Rattle.ir_types.specs.declared.types.Type.{«Type» as IrType}
use Rattle.ir_types.specs.declared.types.TypeInner.{TypeInner}
use Rattle.ir_flags.specs.declared.valid.SubgroupOperationSet.{SubgroupOperationSet}
use Rattle.ir_facts.specs.declared.valid.settings.Settings.{Settings}
use Rattle.ir_errors.specs.declared.function.FunctionError.{FunctionError}
use Rattle.ir_errors.specs.declared.function.FunctionError.TheVariants.{InvalidSubgroup, MissingCapability}
use Rattle.ir_errors.specs.declared.function.SubgroupError.{SubgroupError}
use Rattle.ir_errors.specs.declared.function.SubgroupError.TheVariants as wrong
use Rattle.naga_runs.specs.Visits.{VisitPlace}
use Rattle.ir_arena.specs.Points.{Point}
use Rattle.check_scope.specs.Context.{Context}
use Rattle.check_scope.specs.ScopePoints.{Points, use_point, put_point}
use Rattle.ir_types.specs.TypeTests.{is_scalar, both_are, is_same_inner}
use Rattle.check_scope.specs.ExpressionTypes.{expression_at, type_at}

-- a point whose fault stands inside InvalidSubgroup
abbrev pub subgroup_point : Bool → SubgroupError → Point FunctionError
subgroup_point holds error = (holds, InvalidSubgroup error)

-- whether the target has these groups of operations
abbrev pub has_operations : SubgroupOperationSet → SubgroupOperationSet → Bool
has_operations operations these = contains operations.0 these.0

-- these groups of operations, which the target has
abbrev pub operations_point : Settings → SubgroupOperationSet → Point FunctionError
operations_point settings these =
    subgroup_point (has_operations settings.subgroup_operations these) (wrong.UnsupportedOperation these)

-- subgroups at all
abbrev pub subgroups_point : Settings → Point FunctionError
subgroups_point settings = (has_capability settings.capabilities capability.SUBGROUP, MissingCapability capability.SUBGROUP)

-- the predicate, if there is one: put by every run, and a bool of one byte
abbrev pub predicate_points : Context → VisitPlace → Option ℕ → Points
predicate_points context place None = []
predicate_points context place (Some h) =
    use_point place h ∷ subgroup_point (is_scalar bool_scalar (type_at context h)) (wrong.InvalidOperand h) ∷ []

-- SubgroupBallot: its predicate; its result is put, of whatever kind
abbrev pub ballot_points : Context → VisitPlace → ℕ → Option ℕ → Points
ballot_points context place r predicate =
    subgroups_point context.settings
    ∷ operations_point context.settings bit.BALLOT
    ∷ predicate_points context place predicate
    ++ put_point place r
    ∷ []

-- integers of either sign, and floats
abbrev pub is_number_kind : ScalarKind → Bool
is_number_kind kind.Sint = true
is_number_kind kind.Uint = true
is_number_kind kind.Float = true
is_number_kind _ = false

-- the type that the result of a subgroup operation is declared with
abbrev pub combined_type_of : List IrType → Option Expression → Option TypeInner
combined_type_of types (Some (e.SubgroupOperationResult ty)) = inner_at types ty
combined_type_of types _ = None

abbrev pub combined_type_at : Context → ℕ → Option TypeInner
combined_type_at context r = combined_type_of context.program.types (expression_at context r)

-- the result is one of a subgroup operation, of the argument's type
abbrev pub is_result_of : Context → ℕ → ℕ → Bool
is_result_of context argument r = both_are is_same_inner (combined_type_at context r) (type_at context argument)
