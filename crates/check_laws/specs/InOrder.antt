-- The infos of a module, function by function; and the functions that a body calls.
use Rattle.std.specs.Prelude.{ℕ, List, [], ◌∷◌, ◌++◌}
use Rattle.ir_statements.specs.Tree.{Body, Leaf}
use Rattle.ir_statements.specs.declared.statements.Statement as ir
use Rattle.ir_facts.specs.declared.valid.info.FunctionInfo.{FunctionInfo}
use Rattle.ir_facts.specs.declared.valid.info.ModuleInfo.{ModuleInfo}
use Rattle.naga_runs.specs.Positions.{BodyNode, StatementNode}
use Rattle.check_laws.specs.Accepted.{nodes_of}

-- the infos of a module with that of one function more
abbrev pub with_info : ModuleInfo → FunctionInfo → ModuleInfo
with_info infos info = record infos { functions = infos.functions ++ info ∷ [] }

-- the function that a statement calls
abbrev pub callee_of : BodyNode → List ℕ
callee_of (StatementNode (Leaf acts (ir.Call f arguments result) span)) = f ∷ []
callee_of _ = []

abbrev pub callees_of : List BodyNode → List ℕ
callees_of [] = []
callees_of (node ∷ nodes) = callee_of node ++ callees_of nodes

-- the functions that the Calls of a body name, at any depth, in visit order
abbrev pub called_by : Body → List ℕ
called_by b = callees_of (nodes_of b)
