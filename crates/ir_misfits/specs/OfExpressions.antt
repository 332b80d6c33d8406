-- The misfits of expressions.
use Rattle.std.specs.Prelude.{ℕ, List, [], ◌∷◌, length}
use Rattle.ir_module.specs.declared.expressions.Expression.{Expression}
use Rattle.ir_module.specs.declared.expressions.Expression.TheVariants as e
use Rattle.ir_module.specs.declared.functions.Function.{Function}
use Rattle.ir_module.specs.declared.module.Module.{Module}
use Rattle.ir_module.specs.Operands.{operands_of}
use Rattle.ir_arena.specs.Points.{points_of_each}
use Rattle.ir_misfits.specs.declared.misfit.Owner.{Owner}
use Rattle.ir_misfits.specs.declared.misfit.Owner.TheVariants as owner
use Rattle.ir_misfits.specs.declared.misfit.Place.TheVariants as place
use Rattle.ir_misfits.specs.declared.misfit.HandleOf.{HandleOf}
use Rattle.ir_misfits.specs.declared.misfit.HandleOf.TheVariants as handle
use Rattle.ir_misfits.specs.MisfitPoints.{MisfitPoints, named}
use Rattle.ir_misfits.specs.OfSignatures.{callee_points}

-- the list that the operands index
abbrev pub expressions_of : Owner → HandleOf
expressions_of owner.Module = handle.GlobalExpressions
expressions_of (owner.Function h) = handle.Expressions
expressions_of (owner.EntryPoint k) = handle.Expressions

-- operand i of expression k is an earlier one
abbrev pub operand_points : Owner → ℕ → ℕ → ℕ → MisfitPoints
operand_points of k i h = named (place.Operand of k i) (expressions_of of) k h ∷ []

abbrev pub operands_points : Owner → ℕ → Expression → MisfitPoints
operands_points of k x = points_of_each (operand_points of k) (operands_of x)

-- each operand of each expression is an earlier expression
abbrev pub expressions_points : Owner → List Expression → MisfitPoints
expressions_points of xs = points_of_each (operands_points of) xs

-- of a function of a module
module _ (m : Module) (f : Function) (of : Owner) where
  -- what expression k names besides its operands is there
  abbrev pub reference_points : ℕ → Expression → MisfitPoints
  reference_points k (e.Constant h) = named (place.Reference of k) handle.Constants (length m.constants) h ∷ []
  reference_points k (e.Override h) = named (place.Reference of k) handle.Overrides (length m.overrides) h ∷ []
  reference_points k (e.ZeroValue t) = named (place.Reference of k) handle.Types (length m.types) t ∷ []
  reference_points k (e.Compose t hs) = named (place.Reference of k) handle.Types (length m.types) t ∷ []
  reference_points k (e.GlobalVariable h) =
      named (place.Reference of k) handle.GlobalVariables (length m.global_variables) h ∷ []
  reference_points k (e.LocalVariable h) =
      named (place.Reference of k) handle.LocalVariables (length f.local_variables) h ∷ []
  reference_points k (e.CallResult h) = callee_points m (place.Reference of k) h
  reference_points k (e.AtomicResult t c) = named (place.Reference of k) handle.Types (length m.types) t ∷ []
  reference_points k (e.WorkGroupUniformLoadResult t) =
      named (place.Reference of k) handle.Types (length m.types) t ∷ []
  reference_points k (e.SubgroupOperationResult t) =
      named (place.Reference of k) handle.Types (length m.types) t ∷ []
  reference_points k (e.Literal l) = []
  reference_points k (e.Access b i) = []
  reference_points k (e.AccessIndex b i) = []
  reference_points k (e.FunctionArgument i) = []
  reference_points k (e.Load p) = []
  reference_points k e.RayQueryProceedResult = []
  reference_points k e.SubgroupBallotResult = []
  reference_points k (e.Splat d hs) = []
  reference_points k (e.Swizzle d hs) = []
  reference_points k (e.ImageSample d hs) = []
  reference_points k (e.ImageLoad d hs) = []
  reference_points k (e.ImageQuery d hs) = []
  reference_points k (e.Unary d hs) = []
  reference_points k (e.Binary d hs) = []
  reference_points k (e.Select d hs) = []
  reference_points k (e.Derivative d hs) = []
  reference_points k (e.Relational d hs) = []
  reference_points k (e.Math d hs) = []
  reference_points k (e.As d hs) = []
  reference_points k (e.ArrayLength d hs) = []
  reference_points k (e.RayQueryGetIntersection d hs) = []
  reference_points k (e.RayQueryVertexPositions d hs) = []
  reference_points k (e.CooperativeLoad d hs) = []
  reference_points k (e.CooperativeMultiplyAdd d hs) = []
