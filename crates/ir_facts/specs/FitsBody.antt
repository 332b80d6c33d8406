-- When whatever the statements of a body name, at any depth, is there.
use Rattle.std.specs.Prelude.{ℕ, ◌<◌, ◌≤◌, IfSome, IsSomeAnd, All, ⊤, length, slice_get}
use Rattle.ir_statements.specs.declared.operations.AtomicFunction.{AtomicFunction}
use Rattle.ir_statements.specs.declared.operations.AtomicFunction.TheVariants as atomic
use Rattle.ir_statements.specs.declared.operations.GatherMode.{GatherMode}
use Rattle.ir_statements.specs.declared.operations.GatherMode.TheVariants as mode
use Rattle.ir_statements.specs.declared.operations.RayQueryFunction.{RayQueryFunction}
use Rattle.ir_statements.specs.declared.operations.RayQueryFunction.TheVariants as query
use Rattle.ir_statements.specs.declared.operations.RayPipelineFunction.{RayPipelineFunction}
use Rattle.ir_statements.specs.declared.operations.RayPipelineFunction.TheVariants.{TraceRay}
use Rattle.ir_statements.specs.declared.statements.Statement.{Statement, Switch'}
use Rattle.ir_statements.specs.declared.statements.Statement.TheVariants as s
use Rattle.ir_module.specs.declared.functions.Function.{Function}
use Rattle.ir_module.specs.declared.module.Module.{Module}
use Rattle.ir_statements.specs.Tree.{Stmt, Leaf, Block, Branch, Switch, Loop, Break, Continue, Return, Kill, Body, Done, Then, Cases, NoCase, OneCase}

-- a number of things fits 32 bits
abbrev pub FitsCount : ℕ → Type 0
FitsCount n = n ≤ 4294967295

-- the types of the arguments and of the result are there, and the number of arguments fits 32 bits
pub record SignatureFits (m : Module) (f : Function) : Type 0 where
  pub count : FitsCount (length f.arguments)
  pub arguments : All (λ a. a.ty < length m.types) f.arguments
  pub result_type : IfSome f.result (λ r. r.ty < length m.types)

-- the function is there, and its signature fits
abbrev pub CalleeFits : Module → ℕ → Type 0
CalleeFits m f = IsSomeAnd (slice_get m.functions f) (SignatureFits m)

-- of n expressions
abbrev pub AtomicFits : ℕ → AtomicFunction → Type 0
AtomicFits n (atomic.Exchange c) = IfSome c (λ h. h < n)
AtomicFits n atomic.Add = ⊤
AtomicFits n atomic.Subtract = ⊤
AtomicFits n atomic.And = ⊤
AtomicFits n atomic.ExclusiveOr = ⊤
AtomicFits n atomic.InclusiveOr = ⊤
AtomicFits n atomic.Min = ⊤
AtomicFits n atomic.Max = ⊤

-- the index of a gather, if its mode has one, is there
abbrev pub GatherFits : ℕ → GatherMode → Type 0
GatherFits n mode.BroadcastFirst = ⊤
GatherFits n (mode.QuadSwap d) = ⊤
GatherFits n (mode.Broadcast h) = h < n
GatherFits n (mode.Shuffle h) = h < n
GatherFits n (mode.ShuffleDown h) = h < n
GatherFits n (mode.ShuffleUp h) = h < n
GatherFits n (mode.ShuffleXor h) = h < n
GatherFits n (mode.QuadBroadcast h) = h < n

-- what a step of a ray query names is there
abbrev pub QueryFits : ℕ → RayQueryFunction → Type 0
QueryFits n (query.Initialize a d) = (a < n) × (d < n)
QueryFits n (query.Proceed r) = r < n
QueryFits n (query.GenerateIntersection t) = t < n
QueryFits n query.ConfirmIntersection = ⊤
QueryFits n query.Terminate = ⊤

-- what a ray that is traced names is there
abbrev pub PipelineFits : ℕ → RayPipelineFunction → Type 0
PipelineFits n (TraceRay a d p) = (a < n) × (d < n) × (p < n)

-- of a module, where a function has n expressions and `earlier` functions before it
module _ (m : Module) (n earlier : ℕ) where
  -- a statement that is neither a jump nor holds others; the parts of any other are asked for below
  abbrev pub LeafFits : Statement → Type 0
  LeafFits (s.Emit r) = (r.start ≤ r.end) × (r.end ≤ n)
  LeafFits (s.Store p v) = (p < n) × (v < n)
  LeafFits (s.ImageStore i c a v) = (i < n) × (c < n) × IfSome a (λ h. h < n) × (v < n)
  LeafFits (s.Atomic p f v r) = (p < n) × AtomicFits n f × (v < n) × IfSome r (λ h. h < n)
  LeafFits (s.ImageAtomic i c a f v) = (i < n) × (c < n) × IfSome a (λ h. h < n) × AtomicFits n f × (v < n)
  LeafFits (s.WorkGroupUniformLoad p r) = (p < n) × (r < n)
  LeafFits (s.Call f xs r) = (f < earlier) × CalleeFits m f × All (λ h. h < n) xs × IfSome r (λ h. h < n)
  LeafFits (s.RayQuery q f) = (q < n) × QueryFits n f
  LeafFits (s.SubgroupBallot r p) = (r < n) × IfSome p (λ h. h < n)
  LeafFits (s.SubgroupCollectiveOperation o c a r) = (a < n) × (r < n)
  LeafFits (s.SubgroupGather g a r) = GatherFits n g × (a < n) × (r < n)
  LeafFits (s.CooperativeStore t d) = (t < n) × (d.pointer < n)
  LeafFits (s.RayPipelineFunction f) = PipelineFits n f
  LeafFits (s.ControlBarrier b) = ⊤
  LeafFits (s.MemoryBarrier b) = ⊤
  LeafFits (s.Block b) = ⊤
  LeafFits (s.If c a r) = ⊤
  LeafFits (Switch' h k row) = ⊤
  LeafFits (s.Loop b c q) = ⊤
  LeafFits s.Break = ⊤
  LeafFits s.Continue = ⊤
  LeafFits (s.Return v) = ⊤
  LeafFits s.Kill = ⊤

  abbrev mutual
    pub StatementFits : Stmt → Type 0
    StatementFits (Leaf acts statement span) = LeafFits statement
    StatementFits (Block b) = BodyFits b
    StatementFits (Branch c a r) = (c < n) × BodyFits a × BodyFits r
    StatementFits (Switch h cs) = (h < n) × CasesFit cs
    StatementFits (Loop b c q) = BodyFits b × BodyFits c × IfSome q (λ h. h < n)
    StatementFits Break = ⊤
    StatementFits Continue = ⊤
    StatementFits (Return v) = IfSome v (λ h. h < n)
    StatementFits Kill = ⊤

    pub BodyFits : Body → Type 0
    BodyFits Done = ⊤
    BodyFits (Then first rest) = StatementFits first × BodyFits rest

    pub CasesFit : Cases → Type 0
    CasesFit NoCase = ⊤
    CasesFit (OneCase v f b rest) = BodyFits b × CasesFit rest
