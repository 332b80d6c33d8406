-- The roots of expressions: the global that one is, or is an item of.
use Rattle.std.specs.Prelude.{ℕ, List, [], ◌∷◌, ◌++◌, Option, None, Some, slice_get}
use Rattle.std.specs.Option.{option_flatten}
use Rattle.ir_module.specs.declared.expressions.Expression.{Expression}
use Rattle.ir_module.specs.declared.expressions.Expression.TheVariants as e

abbrev pub root_at : List (Option ℕ) → ℕ → Option ℕ
root_at roots h = option_flatten (slice_get roots h)

-- a global is its own root; an access has that of its base, which stands before it
abbrev pub root_of : List (Option ℕ) → Expression → Option ℕ
root_of earlier (e.GlobalVariable g) = Some g
root_of earlier (e.Access base index) = root_at earlier base
root_of earlier (e.AccessIndex base k) = root_at earlier base
root_of earlier (e.Literal l) = None
root_of earlier (e.Constant h) = None
root_of earlier (e.Override h) = None
root_of earlier (e.ZeroValue ty) = None
root_of earlier (e.FunctionArgument i) = None
root_of earlier (e.LocalVariable h) = None
root_of earlier (e.Compose ty components) = None
root_of earlier (e.Load pointer) = None
root_of earlier (e.CallResult f) = None
root_of earlier (e.AtomicResult ty comparison) = None
root_of earlier (e.WorkGroupUniformLoadResult ty) = None
root_of earlier e.RayQueryProceedResult = None
root_of earlier e.SubgroupBallotResult = None
root_of earlier (e.SubgroupOperationResult ty) = None
root_of earlier (e.Splat detail operands) = None
root_of earlier (e.Swizzle detail operands) = None
root_of earlier (e.ImageSample detail operands) = None
root_of earlier (e.ImageLoad detail operands) = None
root_of earlier (e.ImageQuery detail operands) = None
root_of earlier (e.Unary detail operands) = None
root_of earlier (e.Binary detail operands) = None
root_of earlier (e.Select detail operands) = None
root_of earlier (e.Derivative detail operands) = None
root_of earlier (e.Relational detail operands) = None
root_of earlier (e.Math detail operands) = None
root_of earlier (e.As detail operands) = None
root_of earlier (e.ArrayLength detail operands) = None
root_of earlier (e.RayQueryGetIntersection detail operands) = None
root_of earlier (e.RayQueryVertexPositions detail operands) = None
root_of earlier (e.CooperativeLoad detail operands) = None
root_of earlier (e.CooperativeMultiplyAdd detail operands) = None

-- the roots of these expressions after those of the ones before them
unfoldable pub roots_from : List (Option ℕ) → List Expression → List (Option ℕ)
roots_from earlier [] = earlier
roots_from earlier (x ∷ rest) = roots_from (earlier ++ root_of earlier x ∷ []) rest
