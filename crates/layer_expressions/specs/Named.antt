-- The types of expressions that name something which has one. The module has so many types.
use Rattle.std.specs.Prelude.{ℕ, List, Option, None, Some, Result, Err, length, slice_get, option_and_then}
use Rattle.ir_module.specs.declared.expressions.Expression.{Expression}
use Rattle.ir_module.specs.declared.expressions.Expression.TheVariants as e
use Rattle.ir_module.specs.declared.functions.Function.{Function}
use Rattle.ir_module.specs.declared.functions.FunctionArgument.{FunctionArgument}
use Rattle.ir_module.specs.declared.functions.FunctionResult.{FunctionResult}
use Rattle.ir_module.specs.declared.functions.LocalVariable.{LocalVariable}
use Rattle.ir_module.specs.declared.module.Module.{Module}
use Rattle.ir_types.specs.Types.{bool_scalar}
use Rattle.ir_types.specs.declared.types.AddressSpace.{AddressSpace}
use Rattle.ir_types.specs.declared.types.AddressSpace.TheVariants as space
use Rattle.ir_leaves.specs.declared.scalars.ScalarKind.TheVariants.{Uint}
use Rattle.ir_types.specs.declared.types.TypeInner.TheVariants as inner
use Rattle.ir_leaves.specs.declared.scalars.VectorSize.TheVariants.{Quad}
use Rattle.ir_types.specs.declared.typifier.TypeResolution.{TypeResolution}
use Rattle.ir_types.specs.declared.typifier.TypeResolution.TheVariants.{Handle, Value}
use Rattle.layer_expressions.specs.declared.rules.Rule.{Rule}
use Rattle.layer_expressions.specs.declared.rules.Rule.TheVariants as rule
use Rattle.layer_expressions.specs.RuleNumbers.{or_broken}
use Rattle.layer_shapes.specs.Resolutions.{type_at, pointer_to}
use Rattle.layer_shapes.specs.Shapes.{four_bytes}

-- a global in Handle stands for itself, any other for a pointer to it
abbrev pub global_type : ℕ → ℕ → AddressSpace → Option TypeResolution
global_type count t space.Handle = type_at count t
global_type count t space.Function = pointer_to count t space.Function
global_type count t space.Private = pointer_to count t space.Private
global_type count t space.WorkGroup = pointer_to count t space.WorkGroup
global_type count t space.Uniform = pointer_to count t space.Uniform
global_type count t (space.Storage access) = pointer_to count t (space.Storage access)
global_type count t space.Immediate = pointer_to count t space.Immediate
global_type count t space.TaskPayload = pointer_to count t space.TaskPayload
global_type count t space.RayPayload = pointer_to count t space.RayPayload
global_type count t space.IncomingRayPayload = pointer_to count t space.IncomingRayPayload

-- the result of a function that is called, which is there and has one
abbrev pub result_type : ℕ → Option FunctionResult → Result TypeResolution Rule
result_type count None = Err rule.Result
result_type count (Some r) = or_broken rule.Named (type_at count r.ty)

abbrev pub callee_type : ℕ → Option Function → Result TypeResolution Rule
callee_type count None = Err rule.Named
callee_type count (Some f) = result_type count f.result

-- what an expression names has a type; None where it isn't there, and for the kinds that name nothing
abbrev pub named_type : Module → List FunctionArgument → List LocalVariable → Expression → Option TypeResolution
named_type m arguments locals (e.Literal l) = Some (Value (inner.Scalar l.scalar))
named_type m arguments locals (e.Constant h) = option_and_then (λ c. type_at (length m.types) c.ty) (slice_get m.constants h)
named_type m arguments locals (e.Override h) = option_and_then (λ o. type_at (length m.types) o.ty) (slice_get m.overrides h)
named_type m arguments locals (e.ZeroValue t) = type_at (length m.types) t
named_type m arguments locals (e.Compose t hs) = type_at (length m.types) t
named_type m arguments locals (e.FunctionArgument n) =
    option_and_then (λ a. type_at (length m.types) a.ty) (slice_get arguments n)
named_type m arguments locals (e.GlobalVariable h) =
    option_and_then (λ g. global_type (length m.types) g.ty g.space) (slice_get m.global_variables h)
named_type m arguments locals (e.LocalVariable h) =
    option_and_then (λ v. pointer_to (length m.types) v.ty space.Function) (slice_get locals h)
named_type m arguments locals (e.AtomicResult t c) = type_at (length m.types) t
named_type m arguments locals (e.WorkGroupUniformLoadResult t) = type_at (length m.types) t
named_type m arguments locals e.RayQueryProceedResult = Some (Value (inner.Scalar bool_scalar))
named_type m arguments locals e.SubgroupBallotResult = Some (Value (inner.Vector Quad (four_bytes Uint)))
named_type m arguments locals (e.SubgroupOperationResult t) = type_at (length m.types) t
named_type m arguments locals (e.Access base index) = None
named_type m arguments locals (e.AccessIndex base k) = None
named_type m arguments locals (e.Load pointer) = None
named_type m arguments locals (e.CallResult f) = None
named_type m arguments locals (e.Splat d hs) = None
named_type m arguments locals (e.Swizzle d hs) = None
named_type m arguments locals (e.ImageSample d hs) = None
named_type m arguments locals (e.ImageLoad d hs) = None
named_type m arguments locals (e.ImageQuery d hs) = None
named_type m arguments locals (e.Unary d hs) = None
named_type m arguments locals (e.Binary d hs) = None
named_type m arguments locals (e.Select d hs) = None
named_type m arguments locals (e.Derivative d hs) = None
named_type m arguments locals (e.Relational d hs) = None
named_type m arguments locals (e.Math d hs) = None
named_type m arguments locals (e.As d hs) = None
named_type m arguments locals (e.ArrayLength d hs) = None
named_type m arguments locals (e.RayQueryGetIntersection d hs) = None
named_type m arguments locals (e.RayQueryVertexPositions d hs) = None
named_type m arguments locals (e.CooperativeLoad d hs) = None
named_type m arguments locals (e.CooperativeMultiplyAdd d hs) = None
