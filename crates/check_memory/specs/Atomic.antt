-- The check list of Atomic.
use Rattle.std.specs.Prelude.{ℕ, Bool, true, false, not, ◌&&◌, ◌||◌, ◌==◌, List, [], ◌∷◌, ◌++◌, Option, None, Some, is_some, if◌then◌else◌, unwrap_or}
use Rattle.ir_flags.specs.Capabilities as capability
use Rattle.ir_flags.specs.Capabilities.{has_capability}
use Rattle.ir_types.specs.TypeTests.{is_float_kind}
use Rattle.ir_types.specs.Types.{bool_scalar, inner_at}
use Rattle.ir_statements.specs.Operations.{is_min_or_max}
use Rattle.ir_module.specs.declared.expressions.Expression.{Expression}
use Rattle.ir_module.specs.declared.expressions.Expression.TheVariants as e
use Rattle.ir_statements.specs.declared.operations.AtomicFunction.{AtomicFunction}
use Rattle.ir_statements.specs.declared.operations.AtomicFunction.TheVariants.{Add, Subtract, Exchange}
use Rattle.ir_types.specs.declared.types.AddressSpace.{AddressSpace}
use Rattle.ir_types.specs.declared.types.AddressSpace.TheVariants as space
use Rattle.ir_leaves.specs.declared.scalars.Scalar.{Scalar}
use Rattle.ir_types.specs.declared.types.Type.{«Type» as IrType}
use Rattle.ir_types.specs.declared.types.TypeInner.{TypeInner}
use Rattle.ir_types.specs.declared.types.TypeInner.TheVariants as inner
use Rattle.ir_flags.specs.declared.capabilities.Capabilities.{Capabilities}
use Rattle.ir_types.specs.SpaceTests.{is_storage}
use Rattle.ir_errors.specs.declared.function.AtomicError.{AtomicError}
use Rattle.ir_errors.specs.declared.function.AtomicError.TheVariants as wrong
use Rattle.ir_errors.specs.declared.function.FunctionError.{FunctionError}
use Rattle.ir_errors.specs.declared.function.FunctionError.TheVariants.{InvalidAtomic}
use Rattle.naga_runs.specs.Handles.{Handles}
use Rattle.naga_runs.specs.Visits.{VisitPlace}
use Rattle.ir_arena.specs.Points.{Point}
use Rattle.check_scope.specs.Context.{Context}
use Rattle.check_scope.specs.ScopePoints.{Points, use_point, put_point}
use Rattle.check_scope.specs.Results.{is_fresh}
use Rattle.check_scope.specs.Pointers.{space_at}
use Rattle.ir_types.specs.TypeTests.{is_scalar, both_are, is_equivalent, it_is, is_exchange_struct}
use Rattle.check_scope.specs.ExpressionTypes.{is_integer_kind, expression_at, type_at}

-- a point whose fault stands inside InvalidAtomic
abbrev pub atomic_point : Bool → AtomicError → Point FunctionError
atomic_point holds error = (holds, InvalidAtomic error)

-- the type that a pointer points to
abbrev pub pointed_type : List IrType → Option TypeInner → Option TypeInner
pointed_type types (Some (inner.Pointer base p)) = inner_at types base
pointed_type types _ = None

abbrev pub atomic_scalar_of : Option TypeInner → Option Scalar
atomic_scalar_of (Some (inner.Atomic s)) = Some s
atomic_scalar_of _ = None

-- the scalar of the atomic that an expression points to
abbrev pub atomic_scalar_at : Context → ℕ → Option Scalar
atomic_scalar_at context pointer = atomic_scalar_of (pointed_type context.program.types (type_at context pointer))

-- the same, and the space where it lies, where there is one
abbrev pub atomic_scalar : Context → ℕ → Scalar
atomic_scalar context pointer = unwrap_or (atomic_scalar_at context pointer) bool_scalar

abbrev pub atomic_space : Context → ℕ → AddressSpace
atomic_space context pointer = unwrap_or (space_at context pointer) space.Function

-- an integer of 64 bits, of either sign
abbrev pub is_int64 : Scalar → Bool
is_int64 s = is_integer_kind (Some s.kind) && (s.width == 8)

-- a float of 32 bits
abbrev pub is_float32 : Scalar → Bool
is_float32 s = is_float_kind s.kind && (s.width == 4)

-- an exchange that compares nothing
abbrev pub is_plain_exchange : AtomicFunction → Bool
is_plain_exchange (Exchange None) = true
is_plain_exchange _ = false

-- what can be done with a float
abbrev pub is_done_on_floats : AtomicFunction → Bool
is_done_on_floats Add = true
is_done_on_floats Subtract = true
is_done_on_floats fun = is_plain_exchange fun

-- the weakest capability that lets an operation be done on an integer of 64 bits: Min and Max in storage, where their
-- result is not asked for, need less than the others
abbrev pub int64_capability : AtomicFunction → AddressSpace → Bool → Capabilities
int64_capability fun p has_result =
    if is_min_or_max fun && (is_storage p && not has_result)
    then capability.SHADER_INT64_ATOMIC_MIN_MAX
    else capability.SHADER_INT64_ATOMIC_ALL_OPS

-- whether there is this capability, or that for all operations on an integer of 64 bits
abbrev pub has_int64_capability : Capabilities → Capabilities → Bool
has_int64_capability capabilities needed =
    has_capability capabilities capability.SHADER_INT64_ATOMIC_ALL_OPS || has_capability capabilities needed

-- what the atomic's scalar asks for
abbrev pub scalar_points : Capabilities → Scalar → AddressSpace → AtomicFunction → Bool → Points
scalar_points capabilities s p fun has_result =
    let int64 = int64_capability fun p has_result in
    let float32 = capability.SHADER_FLOAT32_ATOMIC in
    if is_int64 s
    then atomic_point (has_int64_capability capabilities int64) (wrong.MissingCapability int64) ∷ []
    else if is_float32 s
    then
    atomic_point (has_capability capabilities float32) (wrong.MissingCapability float32)
    ∷ atomic_point (is_done_on_floats fun) (wrong.InvalidOperator fun)
    ∷ atomic_point (is_storage p) (wrong.InvalidAddressSpace p)
    ∷ []
    else []

abbrev pub is_atomic_result : Option Expression → Bool
is_atomic_result (Some (e.AtomicResult ty comparison)) = true
is_atomic_result _ = false

-- whether an atomic result is that of a compare exchange
abbrev pub is_comparison : Option Expression → Bool
is_comparison (Some (e.AtomicResult ty comparison)) = comparison
is_comparison _ = false

-- the type that an atomic result is declared with
abbrev pub result_type_of : List IrType → Option Expression → Option TypeInner
result_type_of types (Some (e.AtomicResult ty comparison)) = inner_at types ty
result_type_of types _ = None

abbrev pub result_type_at : Context → ℕ → Option TypeInner
result_type_at context r = result_type_of context.program.types (expression_at context r)

-- two values of one type in canonical form; a result of a value's type; and one of the struct that a compare exchange gives
abbrev pub are_equivalent_at : Context → ℕ → ℕ → Bool
are_equivalent_at context a b =
    both_are (is_equivalent context.program.types) (type_at context a) (type_at context b)

abbrev pub is_result_like : Context → ℕ → ℕ → Bool
is_result_like context r value =
    both_are (is_equivalent context.program.types) (result_type_at context r) (type_at context value)

abbrev pub is_exchange_result : Context → Scalar → ℕ → Bool
is_exchange_result context s r = it_is (is_exchange_struct context.program.types s) (result_type_at context r)

-- the result, if there is one: an atomic result, fresh, and of the right type; then it is put. Of a compare exchange, what
-- is compared with comes before the type. Without a result: no exchange that compares nothing
abbrev pub atomic_result_points : Context → Handles → VisitPlace → Scalar → AtomicFunction → ℕ → Option ℕ → Points
atomic_result_points context filled place s fun value None =
    atomic_point (not (is_plain_exchange fun)) wrong.MissingReturnValue ∷ []
atomic_result_points context filled place s (Exchange (Some compare)) value (Some r) =
    atomic_point (is_atomic_result (expression_at context r)) (wrong.InvalidResultExpression r)
    ∷ atomic_point (is_fresh context filled r) (wrong.ResultAlreadyPopulated r)
    ∷ use_point place compare
    ∷ atomic_point (are_equivalent_at context compare value) (wrong.InvalidOperand compare)
    ∷ atomic_point (is_exchange_result context s r) (wrong.ResultTypeMismatch r)
    ∷ atomic_point (is_comparison (expression_at context r)) (wrong.ResultExpressionNotExchange r)
    ∷ put_point place r
    ∷ []
atomic_result_points context filled place s fun value (Some r) =
    atomic_point (is_atomic_result (expression_at context r)) (wrong.InvalidResultExpression r)
    ∷ atomic_point (is_fresh context filled r) (wrong.ResultAlreadyPopulated r)
    ∷ atomic_point (is_result_like context r value) (wrong.ResultTypeMismatch r)
    ∷ atomic_point (not (is_comparison (expression_at context r))) (wrong.ResultExpressionExchange r)
    ∷ put_point place r
    ∷ []

-- Atomic: its pointer, its value, what the scalar asks for, and its result
abbrev pub atomic_points : Context → Handles → VisitPlace → ℕ → AtomicFunction → ℕ → Option ℕ → Points
atomic_points context filled place pointer fun value result =
    let s = atomic_scalar context pointer in
    use_point place pointer
    ∷ atomic_point (is_some (atomic_scalar_at context pointer)) (wrong.InvalidPointer pointer)
    ∷ use_point place value
    ∷ atomic_point (is_scalar s (type_at context value)) (wrong.InvalidOperand value)
    ∷ scalar_points context.settings.capabilities s (atomic_space context pointer) fun (is_some result)
    ++ atomic_result_points context filled place s fun value result
