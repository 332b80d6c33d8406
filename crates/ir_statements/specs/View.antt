-- The tree of a block of the IR, where `operands` gives the operands of each expression that an Emit puts.
use Rattle.std.specs.Prelude.{ℕ, zero, suc, ◌-◌, List, [], ◌∷◌, ◌++◌, Option, Some, None, map}
use Rattle.ir_statements.specs.declared.statements.Statement.{Statement, Switch', Row_of-SwitchCase, end_of-SwitchCase, more_of-SwitchCase}
use Rattle.ir_statements.specs.declared.statements.Statement as s
use Rattle.ir_statements.specs.declared.statements.Block as b
use Rattle.ir_statements.specs.declared.statements.Block.{Block', Row_of-Located, end_of-Located, more_of-Located}
use Rattle.ir_statements.specs.declared.statements.Located.{Located}
use Rattle.ir_statements.specs.declared.statements.SwitchCase.{SwitchCase, SwitchCase', out-SwitchCase}
use Rattle.ir_statements.specs.declared.operations.AtomicFunction.{AtomicFunction}
use Rattle.ir_statements.specs.declared.operations.AtomicFunction.TheVariants as atomic
use Rattle.ir_statements.specs.declared.operations.GatherMode.{GatherMode}
use Rattle.ir_statements.specs.declared.operations.GatherMode.TheVariants as gather
use Rattle.ir_statements.specs.declared.operations.RayQueryFunction.{RayQueryFunction}
use Rattle.ir_statements.specs.declared.operations.RayQueryFunction.TheVariants as query
use Rattle.ir_statements.specs.declared.operations.RayPipelineFunction.{RayPipelineFunction}
use Rattle.ir_statements.specs.declared.operations.RayPipelineFunction.TheVariants.{TraceRay}
use Rattle.ir_arena.specs.declared.span.Span.{Span}
use Rattle.ir_statements.specs.Tree.{Act, Use, Put, Stmt, Leaf, Block, Branch, Switch, Loop, Break, Continue, Return, Kill, Body, Done, Then, Cases, NoCase, OneCase}

-- a use of the handle, if there is one
abbrev pub used_if : Option ℕ → List Act
used_if None = []
used_if (Some h) = Use h ∷ []

-- a put of the handle, if there is one
abbrev pub put_if : Option ℕ → List Act
put_if None = []
put_if (Some h) = Put h ∷ []

-- the acts of an Emit of `count` expressions from `start` on: of each in order the uses of its operands, and its put
abbrev pub emitted : (ℕ → List ℕ) → ℕ → ℕ → List Act
emitted operands start zero = []
emitted operands start (suc count) = map Use (operands start) ++ (Put start ∷ emitted operands (suc start) count)

-- an exchange uses the value that it compares with, if it has one
abbrev pub compared : AtomicFunction → List Act
compared (atomic.Exchange c) = used_if c
compared atomic.Add = []
compared atomic.Subtract = []
compared atomic.And = []
compared atomic.ExclusiveOr = []
compared atomic.InclusiveOr = []
compared atomic.Min = []
compared atomic.Max = []

-- an atomic operation without a result doesn't use the value that it compares with
abbrev pub atomic_acts : AtomicFunction → Option ℕ → List Act
atomic_acts fun None = []
atomic_acts fun (Some r) = compared fun ++ Put r ∷ []

-- a gather uses its index, if its mode has one
abbrev pub mode_acts : GatherMode → List Act
mode_acts (gather.Broadcast h) = Use h ∷ []
mode_acts (gather.Shuffle h) = Use h ∷ []
mode_acts (gather.ShuffleDown h) = Use h ∷ []
mode_acts (gather.ShuffleUp h) = Use h ∷ []
mode_acts (gather.ShuffleXor h) = Use h ∷ []
mode_acts (gather.QuadBroadcast h) = Use h ∷ []
mode_acts gather.BroadcastFirst = []
mode_acts (gather.QuadSwap d) = []

-- what a step of a ray query uses and puts
abbrev pub query_acts : RayQueryFunction → List Act
query_acts (query.Initialize a d) = Use a ∷ Use d ∷ []
query_acts (query.Proceed r) = Put r ∷ []
query_acts (query.GenerateIntersection t) = Use t ∷ []
query_acts query.ConfirmIntersection = []
query_acts query.Terminate = []

-- a ray that is traced uses its payload before its descriptor
abbrev pub pipeline_acts : RayPipelineFunction → List Act
pipeline_acts (TraceRay a d p) = Use a ∷ Use p ∷ Use d ∷ []

-- what a leaf does, in the order in which it is checked; what else a statement uses stands in its tree
abbrev pub statement_acts : (ℕ → List ℕ) → Statement → List Act
statement_acts operands (s.Emit r) = emitted operands r.start (r.end - r.start)
statement_acts operands (s.Store p v) = Use v ∷ []
statement_acts operands (s.ImageStore i c a v) = Use c ∷ (used_if a ++ Use v ∷ [])
statement_acts operands (s.Atomic p f v r) = Use p ∷ Use v ∷ atomic_acts f r
statement_acts operands (s.ImageAtomic i c a f v) = Use c ∷ (used_if a ++ Use v ∷ [])
statement_acts operands (s.WorkGroupUniformLoad p r) = Use p ∷ Put r ∷ []
statement_acts operands (s.Call f xs r) = map Use xs ++ put_if r
statement_acts operands (s.RayQuery q f) = query_acts f
statement_acts operands (s.SubgroupBallot r p) = used_if p ++ Put r ∷ []
statement_acts operands (s.SubgroupCollectiveOperation o c a r) = Use a ∷ Put r ∷ []
statement_acts operands (s.SubgroupGather m a r) = mode_acts m ++ (Use a ∷ Put r ∷ [])
statement_acts operands (s.CooperativeStore t d) = Use t ∷ []
statement_acts operands (s.RayPipelineFunction f) = pipeline_acts f
statement_acts operands (s.ControlBarrier b) = []
statement_acts operands (s.MemoryBarrier b) = []
statement_acts operands (s.Block b) = []
statement_acts operands (s.If c a r) = []
statement_acts operands (Switch' h k row) = []
statement_acts operands (s.Loop b c q) = []
statement_acts operands s.Break = []
statement_acts operands s.Continue = []
statement_acts operands (s.Return v) = []
statement_acts operands s.Kill = []

-- a statement that is neither a jump nor holds others
abbrev pub leaf_of : (ℕ → List ℕ) → Statement → Span → Stmt
leaf_of operands x span = Leaf (statement_acts operands x) x span

-- the trees of a statement, a block and a row of cases, as the IR's recursive types hold them
abbrev mutual
  pub tree_of : (ℕ → List ℕ) → Statement → Span → Stmt
  tree_of operands (s.Block b) span = Block (body_of operands b)
  tree_of operands (s.If c a r) span = Branch c (body_of operands a) (body_of operands r)
  tree_of operands (Switch' h k row) span = Switch h (row_cases operands row)
  tree_of operands (s.Loop b c q) span = Loop (body_of operands b) (body_of operands c) q
  tree_of operands s.Break span = Break
  tree_of operands s.Continue span = Continue
  tree_of operands (s.Return v) span = Return v
  tree_of operands s.Kill span = Kill
  tree_of operands (s.Emit r) span = leaf_of operands (s.Emit r) span
  tree_of operands (s.ControlBarrier b) span = leaf_of operands (s.ControlBarrier b) span
  tree_of operands (s.MemoryBarrier b) span = leaf_of operands (s.MemoryBarrier b) span
  tree_of operands (s.Store p v) span = leaf_of operands (s.Store p v) span
  tree_of operands (s.ImageStore i c a v) span = leaf_of operands (s.ImageStore i c a v) span
  tree_of operands (s.Atomic p f v r) span = leaf_of operands (s.Atomic p f v r) span
  tree_of operands (s.ImageAtomic i c a f v) span = leaf_of operands (s.ImageAtomic i c a f v) span
  tree_of operands (s.WorkGroupUniformLoad p r) span = leaf_of operands (s.WorkGroupUniformLoad p r) span
  tree_of operands (s.Call f xs r) span = leaf_of operands (s.Call f xs r) span
  tree_of operands (s.RayQuery q f) span = leaf_of operands (s.RayQuery q f) span
  tree_of operands (s.SubgroupBallot r p) span = leaf_of operands (s.SubgroupBallot r p) span
  tree_of operands (s.SubgroupCollectiveOperation o c a r) span = leaf_of operands (s.SubgroupCollectiveOperation o c a r) span
  tree_of operands (s.SubgroupGather m a r) span = leaf_of operands (s.SubgroupGather m a r) span
  tree_of operands (s.CooperativeStore t d) span = leaf_of operands (s.CooperativeStore t d) span
  tree_of operands (s.RayPipelineFunction f) span = leaf_of operands (s.RayPipelineFunction f) span

  pub body_of : (ℕ → List ℕ) → b.Block → Body
  body_of operands (Block' k row) = row_body operands row

  pub row_body : (ℕ → List ℕ) → {m : _} → Row_of-Located m → Body
  row_body operands end_of-Located = Done
  row_body operands (more_of-Located x span rest) = Then (tree_of operands x span) (row_body operands rest)

  pub row_cases : (ℕ → List ℕ) → {m : _} → Row_of-SwitchCase m → Cases
  row_cases operands end_of-SwitchCase = NoCase
  row_cases operands (more_of-SwitchCase c rest) = case_with operands c (row_cases operands rest)

  pub case_with : (ℕ → List ℕ) → SwitchCase → Cases → Cases
  case_with operands (SwitchCase' v body falls) rest = OneCase v falls (body_of operands body) rest

-- the operands where those of emitted expressions aren't checked
abbrev pub no_operands : ℕ → List ℕ
no_operands h = []

-- the tree of a list of statements
abbrev pub list_body : (ℕ → List ℕ) → List Located → Body
list_body operands [] = Done
list_body operands (x ∷ xs) = Then (tree_of operands x.statement x.span) (list_body operands xs)

-- the tree of a list of cases
abbrev pub list_cases : (ℕ → List ℕ) → List SwitchCase → Cases
list_cases operands [] = NoCase
list_cases operands (c ∷ cs) =
    let made = out-SwitchCase c in
    OneCase made.value made.fall_through (body_of operands made.body) (list_cases operands cs)
