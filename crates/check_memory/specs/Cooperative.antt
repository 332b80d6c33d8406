-- The check list of CooperativeStore.
use Rattle.std.specs.Prelude.{ℕ, Bool, false, [], ◌∷◌, Option, None, Some, option_and_then, is_some}
use Rattle.ir_types.specs.Types.{resolved, scalar_of}
use Rattle.ir_leaves.specs.contracts.scalars.ScalarPartialEq.TheImpl as scalar
use Rattle.ir_leaves.specs.declared.scalars.Scalar.{Scalar}
use Rattle.ir_types.specs.declared.types.TypeInner.{TypeInner}
use Rattle.ir_types.specs.declared.types.TypeInner.TheVariants as inner
use Rattle.ir_errors.specs.declared.function.FunctionError.TheVariants.{InvalidCooperativeStoreTarget, InvalidCooperativeDataPointer, InvalidStorePointer}
use Rattle.naga_runs.specs.Visits.{VisitPlace}
use Rattle.check_scope.specs.Context.{Context}
use Rattle.check_scope.specs.ScopePoints.{Points, use_point}
use Rattle.check_scope.specs.Pointers.{base_type_at, is_writable}
use Rattle.check_scope.specs.ExpressionTypes.{type_at}

-- the scalar of a cooperative matrix
abbrev pub matrix_scalar_of : Option TypeInner → Option Scalar
matrix_scalar_of (Some (inner.CooperativeMatrix s detail)) = Some s
matrix_scalar_of _ = None

abbrev pub matrix_scalar_at : Context → ℕ → Option Scalar
matrix_scalar_at context h = matrix_scalar_of (type_at context h)

-- the scalar of what a pointer points to
abbrev pub base_scalar_at : Context → ℕ → Option Scalar
base_scalar_at context pointer =
    option_and_then scalar_of (option_and_then (resolved context.program.types) (base_type_at context pointer))

-- both are there, and the same
abbrev pub are_same_scalars : Option Scalar → Option Scalar → Bool
are_same_scalars (Some a) (Some b) = (scalar.ghosts).eq a b
are_same_scalars _ _ = false

-- CooperativeStore: its target, a cooperative matrix; the pointer points to its scalar, and its space takes stores
abbrev pub cooperative_points : Context → VisitPlace → ℕ → ℕ → Points
cooperative_points context place target pointer =
    use_point place target
    ∷ (is_some (matrix_scalar_at context target), InvalidCooperativeStoreTarget target)
    ∷ (are_same_scalars (base_scalar_at context pointer) (matrix_scalar_at context target), InvalidCooperativeDataPointer pointer)
    ∷ (is_writable context pointer, InvalidStorePointer pointer)
    ∷ []
