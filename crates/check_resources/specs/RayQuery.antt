-- The check list of RayQuery, and the descriptor of a ray, which TraceRay has too.
use Rattle.std.specs.Prelude.{ℕ, Bool, false, not, ◌||◌, [], ◌∷◌, Option, None, Some, is_some, slice_get, option_and_then, unwrap_or}
use Rattle.std.specs.Option.{option_map}
use Rattle.ir_types.specs.Types.{inner_at}
use Rattle.ir_module.specs.declared.expressions.Expression.{Expression}
use Rattle.ir_module.specs.declared.expressions.Expression.TheVariants as e
use Rattle.ir_statements.specs.declared.operations.RayQueryFunction.{RayQueryFunction}
use Rattle.ir_statements.specs.declared.operations.RayQueryFunction.TheVariants as query
use Rattle.ir_types.specs.declared.types.TypeInner.{TypeInner}
use Rattle.ir_types.specs.declared.types.TypeInner.TheVariants as inner
use Rattle.ir_errors.specs.declared.function.FunctionError.TheVariants.{InvalidRayQueryExpression, InvalidRayQueryType, InvalidAccelerationStructure, MissingAccelerationStructureVertexReturn, InvalidRayDescriptor, InvalidHitDistanceType}
use Rattle.naga_runs.specs.Visits.{VisitPlace}
use Rattle.check_scope.specs.Context.{Context}
use Rattle.check_scope.specs.ScopePoints.{Points, use_point, put_point}
use Rattle.ir_types.specs.TypeTests.{both_are, is_float_kind, is_same_inner}
use Rattle.check_scope.specs.ExpressionTypes.{expression_at, type_at}

-- the type that the local is declared with which an expression is
abbrev pub local_type_of : Context → Option Expression → Option ℕ
local_type_of context (Some (e.LocalVariable v)) = option_map (λ l. l.ty) (slice_get context.fun.local_variables v)
local_type_of context _ = None

abbrev pub local_type_at : Context → ℕ → Option ℕ
local_type_at context h = local_type_of context (expression_at context h)

-- the same, where there is such a local
abbrev pub local_type : Context → ℕ → ℕ
local_type context h = unwrap_or (local_type_at context h) 0

-- whether a ray query returns vertices, and an acceleration structure
abbrev pub query_flag_of : Option TypeInner → Option Bool
query_flag_of (Some (inner.RayQuery vertex_return)) = Some vertex_return
query_flag_of _ = None

abbrev pub query_flag_at : Context → ℕ → Option Bool
query_flag_at context query = query_flag_of (inner_at context.program.types (local_type context query))

abbrev pub structure_flag_of : Option TypeInner → Option Bool
structure_flag_of (Some (inner.AccelerationStructure vertex_return)) = Some vertex_return
structure_flag_of _ = None

abbrev pub structure_flag_at : Context → ℕ → Option Bool
structure_flag_at context h = structure_flag_of (type_at context h)

abbrev pub is_set : Option Bool → Bool
is_set (Some flag) = flag
is_set None = false

-- the module's type of ray descriptors, if it has one
abbrev pub descriptor_type : Context → Option TypeInner
descriptor_type context = option_and_then (inner_at context.program.types) context.program.special_types.ray_desc

-- the descriptor of a ray: put by every run, and of the module's type of ray descriptors
abbrev pub descriptor_points : Context → VisitPlace → ℕ → Points
descriptor_points context place descriptor =
    use_point place descriptor
    ∷ (both_are is_same_inner (type_at context descriptor) (descriptor_type context), InvalidRayDescriptor descriptor)
    ∷ []

-- a float of any width, and no vector
abbrev pub is_float_scalar : Option TypeInner → Bool
is_float_scalar (Some (inner.Scalar s)) = is_float_kind s.kind
is_float_scalar _ = false

-- what is done with a query, which returns vertices or not. Proceed puts its result, of any kind
abbrev pub query_function_points : Context → VisitPlace → ℕ → Bool → RayQueryFunction → Points
query_function_points context place q vertex_return (query.Initialize structure descriptor) =
    use_point place structure
    ∷ (is_some (structure_flag_at context structure), InvalidAccelerationStructure structure)
    ∷ (not vertex_return || is_set (structure_flag_at context structure), MissingAccelerationStructureVertexReturn structure q)
    ∷ descriptor_points context place descriptor
query_function_points context place q vertex_return (query.Proceed result) = put_point place result ∷ []
query_function_points context place q vertex_return (query.GenerateIntersection distance) =
    use_point place distance ∷ (is_float_scalar (type_at context distance), InvalidHitDistanceType distance) ∷ []
query_function_points context place q vertex_return query.ConfirmIntersection = []
query_function_points context place q vertex_return query.Terminate = []

-- RayQuery: its query, a local, and what is done with it
abbrev pub ray_query_points : Context → VisitPlace → ℕ → RayQueryFunction → Points
ray_query_points context place query fun =
    (is_some (local_type_at context query), InvalidRayQueryExpression query)
    ∷ (is_some (query_flag_at context query), InvalidRayQueryType (local_type context query))
    ∷ query_function_points context place query (is_set (query_flag_at context query)) fun
