-- The check list of WorkGroupUniformLoad.
use Rattle.std.specs.Prelude.{ℕ, Bool, false, ◌||◌, [], ◌∷◌, Option, None, Some, is_some}
use Rattle.ir_types.specs.Types.{inner_at}
use Rattle.ir_types.specs.SpaceTests.{is_work_group}
use Rattle.ir_module.specs.declared.expressions.Expression.{Expression}
use Rattle.ir_module.specs.declared.expressions.Expression.TheVariants as e
use Rattle.ir_types.specs.declared.types.AddressSpace.{AddressSpace}
use Rattle.ir_types.specs.declared.types.AddressSpace.TheVariants as space
use Rattle.ir_leaves.specs.declared.scalars.Scalar.{Scalar}
use Rattle.ir_types.specs.declared.types.TypeInner.{TypeInner}
use Rattle.ir_types.specs.declared.types.TypeInner.TheVariants as inner
use Rattle.ir_errors.specs.declared.function.FunctionError.TheVariants.{WorkgroupUniformLoadExpressionMismatch, WorkgroupUniformLoadInvalidPointer}
use Rattle.naga_runs.specs.Visits.{VisitPlace}
use Rattle.check_memory.specs.Atomic.{atomic_scalar_at}
use Rattle.check_scope.specs.Context.{Context}
use Rattle.check_scope.specs.ScopePoints.{Points, use_point, put_point}
use Rattle.check_scope.specs.Pointers.{space_at}
use Rattle.ir_types.specs.TypeTests.{is_scalar, both_are, is_equivalent}
use Rattle.check_scope.specs.ExpressionTypes.{expression_at, type_at}

-- the space that a pointer points into is that of work groups
abbrev pub points_into_work_group : Option AddressSpace → Bool
points_into_work_group None = false
points_into_work_group (Some p) = is_work_group p

-- the type that the result of a load is declared with
abbrev pub loaded_type_of : Option Expression → Option ℕ
loaded_type_of (Some (e.WorkGroupUniformLoadResult ty)) = Some ty
loaded_type_of _ = None

abbrev pub loaded_type_at : Context → ℕ → Option ℕ
loaded_type_at context r = loaded_type_of (expression_at context r)

abbrev pub has_scalar : Option TypeInner → Option Scalar → Bool
has_scalar ty None = false
has_scalar ty (Some s) = is_scalar s ty

-- a pointer in the work group to this type, or to an atomic of this scalar
abbrev pub points_to : Context → ℕ → ℕ → Bool
points_to context pointer ty =
    both_are (is_equivalent context.program.types) (type_at context pointer) (Some (inner.Pointer ty space.WorkGroup))
    || has_scalar (inner_at context.program.types ty) (atomic_scalar_at context pointer)

abbrev pub is_loaded_as : Context → ℕ → Option ℕ → Bool
is_loaded_as context pointer None = false
is_loaded_as context pointer (Some ty) = points_to context pointer ty

-- WorkGroupUniformLoad: its pointer, into the work group; its result is put, and then checked
abbrev pub load_points : Context → VisitPlace → ℕ → ℕ → Points
load_points context place pointer r =
    use_point place pointer
    ∷ (points_into_work_group (space_at context pointer), WorkgroupUniformLoadInvalidPointer pointer)
    ∷ put_point place r
    ∷ (is_some (loaded_type_at context r), WorkgroupUniformLoadExpressionMismatch r)
    ∷ (is_loaded_as context pointer (loaded_type_at context r), WorkgroupUniformLoadInvalidPointer pointer)
    ∷ []
