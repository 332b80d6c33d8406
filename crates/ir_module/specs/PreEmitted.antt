-- Which expressions are in scope from the start of a body on.
use Rattle.std.specs.Prelude.{Bool, true, false}
use Rattle.ir_module.specs.declared.expressions.Expression.{Expression}
use Rattle.ir_module.specs.declared.expressions.Expression.TheVariants as e

-- what no Emit and no statement puts there
abbrev pub needs_pre_emit : Expression → Bool
needs_pre_emit (e.Literal l) = true
needs_pre_emit (e.Constant h) = true
needs_pre_emit (e.Override h) = true
needs_pre_emit (e.ZeroValue ty) = true
needs_pre_emit (e.FunctionArgument i) = true
needs_pre_emit (e.GlobalVariable h) = true
needs_pre_emit (e.LocalVariable h) = true
needs_pre_emit (e.Compose ty components) = false
needs_pre_emit (e.Access base index) = false
needs_pre_emit (e.AccessIndex base index) = false
needs_pre_emit (e.Load pointer) = false
needs_pre_emit (e.CallResult f) = false
needs_pre_emit (e.AtomicResult ty comparison) = false
needs_pre_emit (e.WorkGroupUniformLoadResult ty) = false
needs_pre_emit e.RayQueryProceedResult = false
needs_pre_emit e.SubgroupBallotResult = false
needs_pre_emit (e.SubgroupOperationResult ty) = false
needs_pre_emit (e.Splat detail operands) = false
needs_pre_emit (e.Swizzle detail operands) = false
needs_pre_emit (e.ImageSample detail operands) = false
needs_pre_emit (e.ImageLoad detail operands) = false
needs_pre_emit (e.ImageQuery detail operands) = false
needs_pre_emit (e.Unary detail operands) = false
needs_pre_emit (e.Binary detail operands) = false
needs_pre_emit (e.Select detail operands) = false
needs_pre_emit (e.Derivative detail operands) = false
needs_pre_emit (e.Relational detail operands) = false
needs_pre_emit (e.Math detail operands) = false
needs_pre_emit (e.As detail operands) = false
needs_pre_emit (e.ArrayLength detail operands) = false
needs_pre_emit (e.RayQueryGetIntersection detail operands) = false
needs_pre_emit (e.RayQueryVertexPositions detail operands) = false
needs_pre_emit (e.CooperativeLoad detail operands) = false
needs_pre_emit (e.CooperativeMultiplyAdd detail operands) = false
