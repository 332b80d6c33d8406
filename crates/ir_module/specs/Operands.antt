-- The expressions that an expression is made from.
use Rattle.std.specs.Prelude.{ℕ, List, [], ◌∷◌, Option, None, Some}
use Rattle.ir_module.specs.declared.expressions.Expression.{Expression}
use Rattle.ir_module.specs.declared.expressions.Expression.TheVariants as e

-- in the order in which they are written
abbrev pub operands_of : Expression → List ℕ
operands_of (e.Compose t hs) = hs
operands_of (e.Access b i) = b ∷ i ∷ []
operands_of (e.AccessIndex b i) = b ∷ []
operands_of (e.Load p) = p ∷ []
operands_of (e.Splat d hs) = hs
operands_of (e.Swizzle d hs) = hs
operands_of (e.ImageSample d hs) = hs
operands_of (e.ImageLoad d hs) = hs
operands_of (e.ImageQuery d hs) = hs
operands_of (e.Unary d hs) = hs
operands_of (e.Binary d hs) = hs
operands_of (e.Select d hs) = hs
operands_of (e.Derivative d hs) = hs
operands_of (e.Relational d hs) = hs
operands_of (e.Math d hs) = hs
operands_of (e.As d hs) = hs
operands_of (e.ArrayLength d hs) = hs
operands_of (e.RayQueryGetIntersection d hs) = hs
operands_of (e.RayQueryVertexPositions d hs) = hs
operands_of (e.CooperativeLoad d hs) = hs
operands_of (e.CooperativeMultiplyAdd d hs) = hs
operands_of (e.Literal l) = []
operands_of (e.Constant h) = []
operands_of (e.Override h) = []
operands_of (e.ZeroValue t) = []
operands_of (e.FunctionArgument i) = []
operands_of (e.GlobalVariable h) = []
operands_of (e.LocalVariable h) = []
operands_of (e.CallResult f) = []
operands_of (e.AtomicResult t c) = []
operands_of (e.WorkGroupUniformLoadResult t) = []
operands_of e.RayQueryProceedResult = []
operands_of e.SubgroupBallotResult = []
operands_of (e.SubgroupOperationResult t) = []

-- those that an expression holds as a list
abbrev pub listed_operands : Expression → List ℕ
listed_operands (e.Access b i) = []
listed_operands (e.AccessIndex b i) = []
listed_operands (e.Load p) = []
listed_operands x = operands_of x

-- the expression of which an access takes a part
abbrev pub access_base : Expression → Option ℕ
access_base (e.Access base index) = Some base
access_base (e.AccessIndex base index) = Some base
access_base _ = None
