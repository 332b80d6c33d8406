-- The check list of SubgroupGather.
use Rattle.std.specs.Prelude.{ℕ, Bool, true, false, not, ◌||◌, [], ◌∷◌, ◌++◌, Option, None, Some, slice_get}
use Rattle.ir_statements.specs.Subgroups.{gather_group}
use Rattle.ir_statements.specs.declared.operations.GatherMode.{GatherMode}
use Rattle.ir_statements.specs.declared.operations.GatherMode.TheVariants as gather
use Rattle.ir_leaves.specs.declared.scalars.Scalar.{Scalar}
use Rattle.ir_leaves.specs.declared.scalars.ScalarKind.TheVariants as kind
use Rattle.ir_types.specs.declared.types.TypeInner.{TypeInner}
use Rattle.ir_types.specs.declared.types.TypeInner.TheVariants as inner
use Rattle.ir_facts.specs.declared.proc.expression_kinds.ExpressionKind.{ExpressionKind}
use Rattle.ir_facts.specs.declared.proc.expression_kinds.ExpressionKind.TheVariants as known
use Rattle.ir_errors.specs.declared.function.SubgroupError.TheVariants as wrong
use Rattle.naga_runs.specs.Visits.{VisitPlace}
use Rattle.check_scope.specs.Context.{Context}
use Rattle.check_scope.specs.ScopePoints.{Points, use_point, put_point}
use Rattle.ir_types.specs.TypeTests.{is_scalar}
use Rattle.check_scope.specs.ExpressionTypes.{type_at}
use Rattle.check_subgroups.specs.Subgroup.{subgroup_point, operations_point, subgroups_point, is_number_kind, is_result_of}

abbrev pub u32_scalar : Scalar
u32_scalar = record { kind = kind.Uint; width = 4 }

-- the index of a gather, if its mode has one
abbrev pub index_of : GatherMode → Option ℕ
index_of gather.BroadcastFirst = None
index_of (gather.QuadSwap d) = None
index_of (gather.Broadcast h) = Some h
index_of (gather.Shuffle h) = Some h
index_of (gather.ShuffleDown h) = Some h
index_of (gather.ShuffleUp h) = Some h
index_of (gather.ShuffleXor h) = Some h
index_of (gather.QuadBroadcast h) = Some h

-- all take the value of one invocation, which is known as the module is made
abbrev pub is_broadcast : GatherMode → Bool
is_broadcast (gather.Broadcast h) = true
is_broadcast (gather.QuadBroadcast h) = true
is_broadcast _ = false

abbrev pub is_const : Option ExpressionKind → Bool
is_const (Some known.Const) = true
is_const _ = false

abbrev pub is_const_at : Context → ℕ → Bool
is_const_at context h = is_const (slice_get context.kinds h)

-- the index, if there is one: put by every run, a u32, and in a broadcast const. What is no u32 is reported of the argument
abbrev pub index_points : Context → VisitPlace → Bool → ℕ → Option ℕ → Points
index_points context place broadcasts argument None = []
index_points context place broadcasts argument (Some index) =
    use_point place index
    ∷ subgroup_point (is_scalar u32_scalar (type_at context index)) (wrong.InvalidOperand argument)
    ∷ subgroup_point (not broadcasts || is_const_at context index) (wrong.InvalidInvocationIdExprType index)
    ∷ []

-- a number, or a vector of numbers
abbrev pub is_gathered : Option TypeInner → Bool
is_gathered (Some (inner.Scalar s)) = is_number_kind s.kind
is_gathered (Some (inner.Vector size s)) = is_number_kind s.kind
is_gathered _ = false

-- SubgroupGather: its index, its argument, and its result, which is put, and then checked
abbrev pub gather_points : Context → VisitPlace → GatherMode → ℕ → ℕ → Points
gather_points context place mode argument r =
    subgroups_point context.settings
    ∷ operations_point context.settings (gather_group mode)
    ∷ index_points context place (is_broadcast mode) argument (index_of mode)
    ++ use_point place argument
    ∷ subgroup_point (is_gathered (type_at context argument)) (wrong.InvalidOperand argument)
    ∷ put_point place r
    ∷ subgroup_point (is_result_of context argument r) (wrong.ResultTypeMismatch r)
    ∷ []
