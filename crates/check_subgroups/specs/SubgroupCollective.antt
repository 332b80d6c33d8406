-- The check list of SubgroupCollectiveOperation.
use Rattle.std.specs.Prelude.{ℕ, Bool, true, false, ◌&&◌, nat_le, [], ◌∷◌, Option, Some}
use Rattle.ir_statements.specs.Subgroups.{operation_group}
use Rattle.ir_statements.specs.declared.operations.CollectiveOperation.{CollectiveOperation}
use Rattle.ir_statements.specs.declared.operations.CollectiveOperation.TheVariants as over
use Rattle.ir_statements.specs.declared.operations.SubgroupOperation.{SubgroupOperation}
use Rattle.ir_statements.specs.declared.operations.SubgroupOperation.TheVariants as op
use Rattle.ir_leaves.specs.declared.scalars.Scalar.{Scalar}
use Rattle.ir_types.specs.declared.types.TypeInner.{TypeInner}
use Rattle.ir_types.specs.declared.types.TypeInner.TheVariants as inner
use Rattle.ir_errors.specs.declared.function.SubgroupError.TheVariants as wrong
use Rattle.naga_runs.specs.Visits.{VisitPlace}
use Rattle.check_scope.specs.Context.{Context}
use Rattle.check_scope.specs.ScopePoints.{Points, use_point, put_point}
use Rattle.check_scope.specs.ExpressionTypes.{is_bool_kind, is_integer_kind, type_at}
use Rattle.check_subgroups.specs.Subgroup.{subgroup_point, operations_point, subgroups_point, is_number_kind, is_result_of}

-- an integer of 32 bits or more, of either sign
abbrev pub is_wide_integer : Scalar → Bool
is_wide_integer s = is_integer_kind (Some s.kind) && nat_le 4 s.width

-- what an operation combines: All and Any bools; sums, products and extremes numbers; And, Or and Xor wide integers
abbrev pub is_combined_by : SubgroupOperation → Scalar → Bool
is_combined_by op.All s = is_bool_kind s.kind
is_combined_by op.Any s = is_bool_kind s.kind
is_combined_by op.Add s = is_number_kind s.kind
is_combined_by op.Mul s = is_number_kind s.kind
is_combined_by op.Min s = is_number_kind s.kind
is_combined_by op.Max s = is_number_kind s.kind
is_combined_by op.And s = is_wide_integer s
is_combined_by op.Or s = is_wide_integer s
is_combined_by op.Xor s = is_wide_integer s

-- All and Any take no vectors
abbrev pub takes_vectors : SubgroupOperation → Bool
takes_vectors op.All = false
takes_vectors op.Any = false
takes_vectors op.Add = true
takes_vectors op.Mul = true
takes_vectors op.Min = true
takes_vectors op.Max = true
takes_vectors op.And = true
takes_vectors op.Or = true
takes_vectors op.Xor = true

-- a scalar that the operation combines, or a vector of one where it takes vectors
abbrev pub is_operand_of : SubgroupOperation → Option TypeInner → Bool
is_operand_of o (Some (inner.Scalar s)) = is_combined_by o s
is_operand_of o (Some (inner.Vector size s)) = takes_vectors o && is_combined_by o s
is_operand_of o _ = false

-- scans are sums and products
abbrev pub is_scanned : SubgroupOperation → Bool
is_scanned op.Add = true
is_scanned op.Mul = true
is_scanned _ = false

-- over all invocations each operation is done; over a part of them it is a scan
abbrev pub is_done_over : CollectiveOperation → SubgroupOperation → Bool
is_done_over over.Reduce o = true
is_done_over over.InclusiveScan o = is_scanned o
is_done_over over.ExclusiveScan o = is_scanned o

-- SubgroupCollectiveOperation: its argument, its operation, and its result, which is put, and then checked
abbrev pub collective_points : Context → VisitPlace → SubgroupOperation → CollectiveOperation → ℕ → ℕ → Points
collective_points context place o part argument r =
    subgroups_point context.settings
    ∷ operations_point context.settings (operation_group o)
    ∷ use_point place argument
    ∷ subgroup_point (is_operand_of o (type_at context argument)) (wrong.InvalidOperand argument)
    ∷ subgroup_point (is_done_over part o) wrong.UnknownOperation
    ∷ put_point place r
    ∷ subgroup_point (is_result_of context argument r) (wrong.ResultTypeMismatch r)
    ∷ []
