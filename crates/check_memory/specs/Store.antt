-- The check list of Store.
use Rattle.std.specs.Prelude.{ℕ, Bool, true, false, not, [], ◌∷◌, Option, None, Some}
use Rattle.ir_types.specs.Types.{resolved}
use Rattle.ir_module.specs.declared.expressions.Expression.{Expression}
use Rattle.ir_module.specs.declared.expressions.Expression.TheVariants as e
use Rattle.ir_types.specs.declared.types.TypeInner.{TypeInner}
use Rattle.ir_types.specs.declared.types.TypeInner.TheVariants as inner
use Rattle.ir_types.specs.declared.typifier.TypeResolution.{TypeResolution}
use Rattle.ir_errors.specs.declared.function.FunctionError.{FunctionError}
use Rattle.ir_errors.specs.declared.function.FunctionError.TheVariants.{InvalidStorePointer, InvalidStoreTexture, InvalidStoreTypes}
use Rattle.naga_runs.specs.Visits.{VisitPlace}
use Rattle.check_scope.specs.Context.{Context}
use Rattle.check_scope.specs.Pointers.{base_type_at, is_writable}
use Rattle.check_scope.specs.Roots.{root_at}
use Rattle.check_scope.specs.ScopePoints.{Points, use_point}
use Rattle.ir_arena.specs.Points.{Point}
use Rattle.ir_types.specs.TypeTests.{is_scalar}
use Rattle.check_scope.specs.ExpressionTypes.{expression_at, is_of_type, type_at, named_type}

-- a variable, or an argument
abbrev pub is_variable : Option Expression → Bool
is_variable None = false
is_variable (Some (e.LocalVariable v)) = true
is_variable (Some (e.GlobalVariable g)) = true
is_variable (Some (e.FunctionArgument i)) = true
is_variable (Some (e.Literal l)) = false
is_variable (Some (e.Constant h)) = false
is_variable (Some (e.Override h)) = false
is_variable (Some (e.ZeroValue ty)) = false
is_variable (Some (e.Compose ty components)) = false
is_variable (Some (e.Access base index)) = false
is_variable (Some (e.AccessIndex base index)) = false
is_variable (Some (e.Load pointer)) = false
is_variable (Some (e.CallResult f)) = false
is_variable (Some (e.AtomicResult ty comparison)) = false
is_variable (Some (e.WorkGroupUniformLoadResult ty)) = false
is_variable (Some e.RayQueryProceedResult) = false
is_variable (Some e.SubgroupBallotResult) = false
is_variable (Some (e.SubgroupOperationResult ty)) = false
is_variable (Some (e.Splat detail operands)) = false
is_variable (Some (e.Swizzle detail operands)) = false
is_variable (Some (e.ImageSample detail operands)) = false
is_variable (Some (e.ImageLoad detail operands)) = false
is_variable (Some (e.ImageQuery detail operands)) = false
is_variable (Some (e.Unary detail operands)) = false
is_variable (Some (e.Binary detail operands)) = false
is_variable (Some (e.Select detail operands)) = false
is_variable (Some (e.Derivative detail operands)) = false
is_variable (Some (e.Relational detail operands)) = false
is_variable (Some (e.Math detail operands)) = false
is_variable (Some (e.As detail operands)) = false
is_variable (Some (e.ArrayLength detail operands)) = false
is_variable (Some (e.RayQueryGetIntersection detail operands)) = false
is_variable (Some (e.RayQueryVertexPositions detail operands)) = false
is_variable (Some (e.CooperativeLoad detail operands)) = false
is_variable (Some (e.CooperativeMultiplyAdd detail operands)) = false

-- an image or a sampler
abbrev pub is_texture : Option TypeInner → Bool
is_texture (Some (inner.Image dim arrayed class)) = true
is_texture (Some (inner.Sampler comparison)) = true
is_texture _ = false

-- what is stored is none
abbrev pub texture_point : ℕ → Option TypeInner → Point FunctionError
texture_point value ty = (not (is_texture ty), InvalidStoreTexture value (named_type ty))

-- whether a value is what this type holds: an atomic its scalar, any other a value of the type
abbrev pub is_held_by : Context → ℕ → TypeResolution → Option TypeInner → Bool
is_held_by context value base (Some (inner.Atomic s)) = is_scalar s (type_at context value)
is_held_by context value base _ = is_of_type context value base

abbrev pub is_stored_as : Context → ℕ → Option TypeResolution → Bool
is_stored_as context value None = false
is_stored_as context value (Some base) = is_held_by context value base (resolved context.program.types base)

-- Store: its pointer leads back to a variable or an argument; its value, which is no texture; the type that is pointed to
-- holds it, and its space takes stores
abbrev pub store_points : Context → VisitPlace → ℕ → ℕ → Points
store_points context place pointer value =
    (is_variable (expression_at context (root_at context pointer)), InvalidStorePointer (root_at context pointer))
    ∷ use_point place value
    ∷ texture_point value (type_at context value)
    ∷ (is_stored_as context value (base_type_at context pointer), InvalidStoreTypes pointer value)
    ∷ (is_writable context pointer, InvalidStorePointer pointer)
    ∷ []
