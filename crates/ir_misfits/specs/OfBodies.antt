-- The misfits of the statements of a body, at any depth.
use Rattle.std.specs.Prelude.{ℕ, suc, nat_lt, nat_le, List, [], ◌∷◌, ◌++◌, Option, if◌then◌else◌}
use Rattle.ir_arena.specs.declared.range.Range.{Range}
use Rattle.ir_statements.specs.declared.operations.AtomicFunction.{AtomicFunction}
use Rattle.ir_statements.specs.declared.operations.AtomicFunction.TheVariants as atomic
use Rattle.ir_statements.specs.declared.operations.GatherMode.{GatherMode}
use Rattle.ir_statements.specs.declared.operations.GatherMode.TheVariants as mode
use Rattle.ir_statements.specs.declared.operations.RayQueryFunction.{RayQueryFunction}
use Rattle.ir_statements.specs.declared.operations.RayQueryFunction.TheVariants as query
use Rattle.ir_statements.specs.declared.operations.RayPipelineFunction.{RayPipelineFunction}
use Rattle.ir_statements.specs.declared.operations.RayPipelineFunction.TheVariants.{TraceRay}
use Rattle.ir_statements.specs.declared.statements.Statement.{Statement, Switch'}
use Rattle.ir_statements.specs.declared.statements.Statement.TheVariants as s
use Rattle.ir_module.specs.declared.module.Module.{Module}
use Rattle.ir_statements.specs.Tree.{Stmt, Leaf, Block, Branch, Switch, Loop, Break, Continue, Return, Kill, Body, Done, Then, Cases, NoCase, OneCase}
use Rattle.ir_arena.specs.Points.{points_of_each}
use Rattle.ir_misfits.specs.declared.misfit.Owner.{Owner}
use Rattle.ir_misfits.specs.declared.misfit.StatementField.{StatementField}
use Rattle.ir_misfits.specs.declared.misfit.StatementField.TheVariants as field
use Rattle.ir_misfits.specs.declared.misfit.Place.TheVariants as place
use Rattle.ir_misfits.specs.declared.misfit.HandleOf.TheVariants as handle
use Rattle.ir_misfits.specs.declared.misfit.Problem.TheVariants as problem
use Rattle.ir_misfits.specs.MisfitPoints.{MisfitPoints, named, named_if}
use Rattle.ir_misfits.specs.OfSignatures.{callee_points}

-- the number of the next statement; numbers end where a `usize` does
abbrev pub next : ℕ → ℕ
next k = if nat_lt k 18446744073709551615 then suc k else k

-- the number of the statement after these, the first of which has this number: each is counted before what it holds
abbrev mutual
  pub after_statement : ℕ → Stmt → ℕ
  after_statement k (Leaf acts statement span) = next k
  after_statement k (Block b) = after_body (next k) b
  after_statement k (Branch c a r) = after_body (after_body (next k) a) r
  after_statement k (Switch h cs) = after_cases (next k) cs
  after_statement k (Loop b c q) = after_body (after_body (next k) b) c
  after_statement k Break = next k
  after_statement k Continue = next k
  after_statement k (Return v) = next k
  after_statement k Kill = next k

  pub after_body : ℕ → Body → ℕ
  after_body k Done = k
  after_body k (Then first rest) = after_body (after_statement k first) rest

  pub after_cases : ℕ → Cases → ℕ
  after_cases k NoCase = k
  after_cases k (OneCase v f b rest) = after_cases (after_body k b) rest

-- of n expressions, in this function
module _ (n : ℕ) (of : Owner) where
  -- an expression that statement k names in this field is there
  abbrev pub names : ℕ → StatementField → ℕ → MisfitPoints
  names k field h = named (place.InStatement of k field) handle.Expressions n h ∷ []

  -- the same of one that may be left out
  abbrev pub names_if : ℕ → StatementField → Option ℕ → MisfitPoints
  names_if k field o = named_if (place.InStatement of k field) handle.Expressions n o

  -- what an exchange compares with
  abbrev pub atomic_points : ℕ → AtomicFunction → MisfitPoints
  atomic_points k (atomic.Exchange c) = names_if k field.Compare c
  atomic_points k atomic.Add = []
  atomic_points k atomic.Subtract = []
  atomic_points k atomic.And = []
  atomic_points k atomic.ExclusiveOr = []
  atomic_points k atomic.InclusiveOr = []
  atomic_points k atomic.Min = []
  atomic_points k atomic.Max = []

  -- the index of a gather, if its mode has one
  abbrev pub gather_points : ℕ → GatherMode → MisfitPoints
  gather_points k mode.BroadcastFirst = []
  gather_points k (mode.QuadSwap d) = []
  gather_points k (mode.Broadcast h) = names k field.Mode h
  gather_points k (mode.Shuffle h) = names k field.Mode h
  gather_points k (mode.ShuffleDown h) = names k field.Mode h
  gather_points k (mode.ShuffleUp h) = names k field.Mode h
  gather_points k (mode.ShuffleXor h) = names k field.Mode h
  gather_points k (mode.QuadBroadcast h) = names k field.Mode h

  -- a step of a ray query
  abbrev pub query_points : ℕ → RayQueryFunction → MisfitPoints
  query_points k (query.Initialize a d) = names k field.AccelerationStructure a ++ names k field.Descriptor d
  query_points k (query.Proceed r) = names k field.Result r
  query_points k (query.GenerateIntersection t) = names k field.HitT t
  query_points k query.ConfirmIntersection = []
  query_points k query.Terminate = []

  -- a ray that is traced
  abbrev pub pipeline_points : ℕ → RayPipelineFunction → MisfitPoints
  pipeline_points k (TraceRay a d p) =
      names k field.AccelerationStructure a ++ (names k field.Descriptor d ++ names k field.Payload p)

  -- the range of an Emit is in order, and within the expressions
  abbrev pub range_points : ℕ → Range → MisfitPoints
  range_points k r = (
    nat_le r.start r.end,
    record {
      place = place.InStatement of k field.Range;
      problem = problem.Backwards r.start r.end;
    },
  )
      ∷ (nat_le r.end n, record { place = place.InStatement of k field.Range; problem = problem.PastEnd r.end n })
      ∷ []

  -- an argument of a Call
  abbrev pub call_argument_points : ℕ → ℕ → ℕ → MisfitPoints
  call_argument_points k i h = names k (field.CallArgument i) h

  -- the fields of a Store, an ImageStore, an Atomic, an ImageAtomic, a WorkGroupUniformLoad
  abbrev pub store_points : ℕ → ℕ → ℕ → MisfitPoints
  store_points k p v = names k field.Pointer p ++ names k field.Value v

  abbrev pub image_store_points : ℕ → ℕ → ℕ → Option ℕ → ℕ → MisfitPoints
  image_store_points k i c a v =
      names k field.Image i ++ (names k field.Coordinate c ++ (names_if k field.ArrayIndex a ++ names k field.Value v))

  abbrev pub operation_points : ℕ → ℕ → AtomicFunction → ℕ → Option ℕ → MisfitPoints
  operation_points k p f v r =
      names k field.Pointer p ++ (atomic_points k f ++ (names k field.Value v ++ names_if k field.Result r))

  -- what is done to a texel, and with which value
  abbrev pub texel_operation_points : ℕ → AtomicFunction → ℕ → MisfitPoints
  texel_operation_points k f v = atomic_points k f ++ names k field.Value v

  abbrev pub image_operation_points : ℕ → ℕ → ℕ → Option ℕ → AtomicFunction → ℕ → MisfitPoints
  image_operation_points k i c a f v =
      names k field.Image i
      ++ (names k field.Coordinate c ++ (names_if k field.ArrayIndex a ++ texel_operation_points k f v))

  abbrev pub uniform_load_points : ℕ → ℕ → ℕ → MisfitPoints
  uniform_load_points k p r = names k field.Pointer p ++ names k field.Result r

  -- those of a RayQuery, and of what subgroups and cooperative matrices do
  abbrev pub ray_query_points : ℕ → ℕ → RayQueryFunction → MisfitPoints
  ray_query_points k q f = names k field.Query q ++ query_points k f

  abbrev pub ballot_points : ℕ → ℕ → Option ℕ → MisfitPoints
  ballot_points k r p = names k field.Result r ++ names_if k field.Predicate p

  abbrev pub collective_points : ℕ → ℕ → ℕ → MisfitPoints
  collective_points k a r = names k field.Argument a ++ names k field.Result r

  abbrev pub gathering_points : ℕ → GatherMode → ℕ → ℕ → MisfitPoints
  gathering_points k g a r = gather_points k g ++ (names k field.Argument a ++ names k field.Result r)

  abbrev pub cooperative_store_points : ℕ → ℕ → ℕ → MisfitPoints
  cooperative_store_points k t p = names k field.Target t ++ names k field.Source p

-- of a module, where a function has n expressions and `earlier` functions before it
module _ (m : Module) (n earlier : ℕ) (of : Owner) where
  -- a Call names an earlier function, whose signature fits, and expressions that are there
  abbrev pub call_points : ℕ → ℕ → List ℕ → Option ℕ → MisfitPoints
  call_points k f xs r =
      named (place.InStatement of k field.Function) handle.Functions earlier f
      ∷ (callee_points m (place.InStatement of k field.Function) f
      ++ (points_of_each (call_argument_points n of k) xs ++ names_if n of k field.Result r))

  -- statement k, which is neither a jump nor holds others; none of any other
  abbrev pub leaf_points : ℕ → Statement → MisfitPoints
  leaf_points k (s.Emit r) = range_points n of k r
  leaf_points k (s.Store p v) = store_points n of k p v
  leaf_points k (s.ImageStore i c a v) = image_store_points n of k i c a v
  leaf_points k (s.Atomic p f v r) = operation_points n of k p f v r
  leaf_points k (s.ImageAtomic i c a f v) = image_operation_points n of k i c a f v
  leaf_points k (s.WorkGroupUniformLoad p r) = uniform_load_points n of k p r
  leaf_points k (s.Call f xs r) = call_points k f xs r
  leaf_points k (s.RayQuery q f) = ray_query_points n of k q f
  leaf_points k (s.SubgroupBallot r p) = ballot_points n of k r p
  leaf_points k (s.SubgroupCollectiveOperation o c a r) = collective_points n of k a r
  leaf_points k (s.SubgroupGather g a r) = gathering_points n of k g a r
  leaf_points k (s.CooperativeStore t d) = cooperative_store_points n of k t d.pointer
  leaf_points k (s.RayPipelineFunction f) = pipeline_points n of k f
  leaf_points k (s.ControlBarrier b) = []
  leaf_points k (s.MemoryBarrier b) = []
  leaf_points k (s.Block b) = []
  leaf_points k (s.If c a r) = []
  leaf_points k (Switch' h j row) = []
  leaf_points k (s.Loop b c q) = []
  leaf_points k s.Break = []
  leaf_points k s.Continue = []
  leaf_points k (s.Return v) = []
  leaf_points k s.Kill = []

  -- a statement with this number and those that it holds; a list of statements, and cases, of which the first has it
  abbrev mutual
    pub statement_points : ℕ → Stmt → MisfitPoints
    statement_points k (Leaf acts statement span) = leaf_points k statement
    statement_points k (Block b) = body_points (next k) b
    statement_points k (Branch c a r) =
        names n of k field.Condition c ++ (body_points (next k) a ++ body_points (after_body (next k) a) r)
    statement_points k (Switch h cs) = names n of k field.Selector h ++ cases_points (next k) cs
    statement_points k (Loop b c q) =
        body_points (next k) b ++ (body_points (after_body (next k) b) c ++ names_if n of k field.BreakIf q)
    statement_points k Break = []
    statement_points k Continue = []
    statement_points k (Return v) = names_if n of k field.Value v
    statement_points k Kill = []

    pub body_points : ℕ → Body → MisfitPoints
    body_points k Done = []
    body_points k (Then first rest) = statement_points k first ++ body_points (after_statement k first) rest

    pub cases_points : ℕ → Cases → MisfitPoints
    cases_points k NoCase = []
    cases_points k (OneCase v f b rest) = body_points k b ++ cases_points (after_body k b) rest
