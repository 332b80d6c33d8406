-- What else holds of a body that is accepted: each result is filled once, and the stages that are left are stages of all.
use Rattle.std.specs.List.{AllByRecursion}
use Rattle.std.specs.Prelude.{ℕ, ◌+◌, ◌≡◌, ⊤, Bool, List, [], ◌∷◌, ◌++◌, Some, map, slice_get, if◌then◌else◌}
use Rattle.ir_statements.specs.Tree.{Body, Leaf}
use Rattle.ir_module.specs.declared.expressions.Expression.TheVariants as e
use Rattle.ir_module.specs.declared.functions.Function.{Function}
use Rattle.ir_statements.specs.declared.statements.Statement as ir
use Rattle.ir_flags.specs.declared.valid.ShaderStages.{ShaderStages}
use Rattle.ir_facts.specs.declared.valid.info.ModuleInfo.{ModuleInfo}
use Rattle.naga_runs.specs.Positions.{BodyNode, NoNode, StatementNode, BreakIfNode, node_at}
use Rattle.naga_runs.specs.VisitOrder.{positions}
use Rattle.check_scope.specs.BodyTrees.{body_of}
use Rattle.check_scope.specs.Results.{is_this}
use Rattle.check_statement.specs.Rules.{callee_stages, stages_of}
use Rattle.check_statement.specs.StageSets.{meet}

-- what stands at the positions of a body, in visit order
abbrev pub nodes_of : Body → List BodyNode
nodes_of b = map (node_at b) (positions b)

-- the function that is called, where it is a Call that names r as its result
abbrev pub callee_filling : ℕ → BodyNode → List ℕ
callee_filling r (StatementNode (Leaf acts (ir.Call f arguments result) span)) = if is_this r result then f ∷ [] else []
callee_filling r _ = []

-- the functions of all Calls that name r, in visit order
abbrev pub callees_filling : ℕ → List BodyNode → List ℕ
callees_filling r [] = []
callees_filling r (node ∷ nodes) = callee_filling r node ++ callees_filling r nodes

-- 1 where it is an Atomic that names r as its result
abbrev pub atomic_filling : ℕ → BodyNode → ℕ
atomic_filling r (StatementNode (Leaf acts (ir.Atomic pointer fun value result) span)) = if is_this r result then 1 else 0
atomic_filling r _ = 0

-- how many Atomics name r
abbrev pub atomics_filling : ℕ → List BodyNode → ℕ
atomics_filling r [] = 0
atomics_filling r (node ∷ nodes) = atomic_filling r node + atomics_filling r nodes

-- each CallResult is named by exactly one Call, which is of its function, and by no Atomic; each AtomicResult by
-- exactly one Atomic and by no Call
pub record AreFilledOnce (fun : Function) (nodes : List BodyNode) : Type 0 where
  pub calls : (r f : ℕ) → slice_get fun.expressions r ≡ Some (e.CallResult f) →
      (callees_filling r nodes ≡ f ∷ []) × (atomics_filling r nodes ≡ 0)
  pub atomics : (r ty : ℕ) (comparison : Bool) → slice_get fun.expressions r ≡ Some (e.AtomicResult ty comparison) →
      (callees_filling r nodes ≡ []) × (atomics_filling r nodes ≡ 1)

-- so it is of a function and the statements of its body, at any depth
abbrev pub ResultsAreFilledOnce : Function → Type 0
ResultsAreFilledOnce fun = AreFilledOnce fun (nodes_of (body_of fun))

-- each stage of the first is one of the second
abbrev pub AreAmong : ShaderStages → ShaderStages → Type 0
AreAmong some all = meet some all ≡ some

-- the stages are among those of a statement
abbrev pub AreOfStatement : ShaderStages → ModuleInfo → ShaderStages → BodyNode → Type 0
AreOfStatement subgroups earlier stages (StatementNode x) = AreAmong stages (stages_of subgroups earlier x)
AreOfStatement subgroups earlier stages NoNode = ⊤
AreOfStatement subgroups earlier stages (BreakIfNode condition) = ⊤

-- the stages are among those that the info of a called function records
abbrev pub AreOfCallee : ModuleInfo → ShaderStages → BodyNode → Type 0
AreOfCallee earlier stages (StatementNode (Leaf acts (ir.Call f arguments result) span)) =
    AreAmong stages (callee_stages earlier f)
AreOfCallee earlier stages _ = ⊤

-- the stages are among those of each statement of a body, at any depth, where subgroups are in the first ones, and of
-- each function that it calls
pub record StagesAreOfAll (subgroups : ShaderStages) (earlier : ModuleInfo) (b : Body) (stages : ShaderStages) : Type 0 where
  pub statements : AllByRecursion (AreOfStatement subgroups earlier stages) (nodes_of b)
  pub callees : AllByRecursion (AreOfCallee earlier stages) (nodes_of b)

-- the stages are among those at the start and among those of each statement of a body, at any depth
abbrev pub AreOfStartAndAll : (subgroups : ShaderStages) → ModuleInfo → (start : ShaderStages) → Body → ShaderStages → Type 0
AreOfStartAndAll subgroups earlier start b stages =
    AreAmong stages start × AllByRecursion (AreOfStatement subgroups earlier stages) (nodes_of b)
