-- The rules of a body: the check list of each visit, given the visits before it, and the stages that are left.
use Rattle.std.specs.Prelude.{ℕ, List, [], ◌∷◌, Option, None, Some, slice_get}
use Rattle.ir_flags.specs.Bits as bit
use Rattle.ir_statements.specs.Tree.{Stmt, Leaf, Block, Branch, Switch, Loop, Break, Continue, Return, Kill}
use Rattle.ir_statements.specs.declared.operations.RayPipelineFunction.TheVariants.{TraceRay}
use Rattle.ir_statements.specs.declared.statements.Statement.{Statement, Switch'}
use Rattle.ir_statements.specs.declared.statements.Statement as ir
use Rattle.ir_flags.specs.declared.valid.ShaderStages.{ShaderStages}
use Rattle.ir_facts.specs.declared.valid.info.FunctionInfo.{FunctionInfo}
use Rattle.ir_facts.specs.declared.valid.info.ModuleInfo.{ModuleInfo}
use Rattle.ir_errors.specs.declared.function.FunctionError.{FunctionError}
use Rattle.naga_runs.specs.Judgement.{Rules, by_earlier}
use Rattle.naga_runs.specs.Positions.{BodyNode, NoNode, StatementNode, BreakIfNode}
use Rattle.naga_runs.specs.Visits.{VisitPlace, Visit}
use Rattle.check_memory.specs.Atomic.{atomic_points}
use Rattle.check_statement.specs.Past.{Past, past_of}
use Rattle.check_subgroups.specs.Barrier.{barrier_points}
use Rattle.check_flow.specs.Call.{call_points}
use Rattle.check_scope.specs.Context.{Context}
use Rattle.check_flow.specs.Emit.{emit_points}
use Rattle.check_flow.specs.Control.{condition_points, return_points, break_points, continue_points}
use Rattle.check_flow.specs.Switch.{switch_points}
use Rattle.check_memory.specs.Cooperative.{cooperative_points}
use Rattle.check_resources.specs.ImageAtomic.{image_atomic_points}
use Rattle.check_resources.specs.ImageStore.{image_store_points}
use Rattle.check_memory.specs.Load.{load_points}
use Rattle.check_scope.specs.ScopePoints.{Points}
use Rattle.check_resources.specs.RayQuery.{ray_query_points}
use Rattle.check_resources.specs.RayTrace.{trace_ray_points}
use Rattle.check_statement.specs.StageSets.{meet}
use Rattle.check_memory.specs.Store.{store_points}
use Rattle.check_subgroups.specs.Subgroup.{ballot_points}
use Rattle.check_subgroups.specs.SubgroupCollective.{collective_points}
use Rattle.check_subgroups.specs.SubgroupGather.{gather_points}

-- the check list of a statement that is neither a jump nor holds others, after what the visits before it did
abbrev pub leaf_points : Context → Past → VisitPlace → Statement → Points
leaf_points context past place (ir.Emit range) = emit_points context place range.start range.end
leaf_points context past place (ir.Call f arguments result) =
    call_points context past.filled place f arguments result
leaf_points context past place (ir.Atomic pointer fun value result) =
    atomic_points context past.filled place pointer fun value result
leaf_points context past place (ir.Store pointer value) = store_points context place pointer value
leaf_points context past place (ir.WorkGroupUniformLoad pointer result) = load_points context place pointer result
leaf_points context past place (ir.CooperativeStore target source) = cooperative_points context place target source.pointer
leaf_points context past place (ir.ImageStore image coordinate array_index value) =
    image_store_points context place image coordinate array_index value
leaf_points context past place (ir.ImageAtomic image coordinate array_index fun value) =
    image_atomic_points context place image coordinate array_index fun value
leaf_points context past place (ir.ControlBarrier barrier) = barrier_points context.settings barrier
leaf_points context past place (ir.MemoryBarrier barrier) = barrier_points context.settings barrier
leaf_points context past place (ir.RayQuery query fun) = ray_query_points context place query fun
leaf_points context past place (ir.RayPipelineFunction (TraceRay structure descriptor payload)) =
    trace_ray_points context past.payload place structure descriptor payload
leaf_points context past place (ir.SubgroupBallot result predicate) = ballot_points context place result predicate
leaf_points context past place (ir.SubgroupGather mode argument result) = gather_points context place mode argument result
leaf_points context past place (ir.SubgroupCollectiveOperation op collective_op argument result) =
    collective_points context place op collective_op argument result
leaf_points context past place (ir.Block body) = []
leaf_points context past place (ir.If condition accept reject) = []
leaf_points context past place (Switch' selector shape row) = []
leaf_points context past place (ir.Loop body continuing break_if) = []
leaf_points context past place ir.Break = []
leaf_points context past place ir.Continue = []
leaf_points context past place (ir.Return value) = []
leaf_points context past place ir.Kill = []

-- the check list of a statement
abbrev pub statement_points : Context → Past → VisitPlace → Stmt → Points
statement_points context past place (Leaf acts statement span) = leaf_points context past place statement
statement_points context past place (Branch h accept reject) = condition_points context place h
statement_points context past place (Switch h cases) = switch_points context place h cases
statement_points context past place (Return value) = return_points context place value
statement_points context past place Break = break_points place
statement_points context past place Continue = continue_points place
statement_points context past place (Block b) = []
statement_points context past place (Loop b continuing q) = []
statement_points context past place Kill = []

-- the check list of what stands at a place
abbrev pub points_at : Context → Past → VisitPlace → BodyNode → Points
points_at context past place NoNode = []
points_at context past place (StatementNode x) = statement_points context past place x
points_at context past place (BreakIfNode h) = condition_points context place h

-- each visit has its check list, given what the visits before it did
abbrev pub body_rules : Context → Rules (List Visit) FunctionError
body_rules context =
    by_earlier (λ earlier visit. points_at context (past_of context earlier) visit.place visit.node)

-- the stages that an info records; the conditions of a validation say that there is one
abbrev pub recorded_stages : Option FunctionInfo → ShaderStages
recorded_stages None = bit.ALL_STAGES
recorded_stages (Some info) = info.available_stages

-- the stages that an earlier function may run in
abbrev pub callee_stages : ModuleInfo → ℕ → ShaderStages
callee_stages earlier f = recorded_stages (slice_get earlier.functions f)

-- the stages that a statement may run in that is neither a jump nor holds others, where subgroups are in these stages
abbrev pub leaf_stages : ShaderStages → ModuleInfo → Statement → ShaderStages
leaf_stages subgroups earlier (ir.ControlBarrier barrier) = bit.COMPUTE_LIKE
leaf_stages subgroups earlier (ir.MemoryBarrier barrier) = bit.COMPUTE_LIKE
leaf_stages subgroups earlier (ir.WorkGroupUniformLoad pointer result) = bit.COMPUTE_LIKE
leaf_stages subgroups earlier (ir.CooperativeStore target source) = bit.COMPUTE
leaf_stages subgroups earlier (ir.Call f arguments result) = callee_stages earlier f
leaf_stages subgroups earlier (ir.SubgroupBallot result predicate) = subgroups
leaf_stages subgroups earlier (ir.SubgroupGather mode argument result) = subgroups
leaf_stages subgroups earlier (ir.SubgroupCollectiveOperation op collective_op argument result) = subgroups
leaf_stages subgroups earlier (ir.Emit range) = bit.ALL_STAGES
leaf_stages subgroups earlier (ir.Store pointer value) = bit.ALL_STAGES
leaf_stages subgroups earlier (ir.ImageStore image coordinate array_index value) = bit.ALL_STAGES
leaf_stages subgroups earlier (ir.Atomic pointer fun value result) = bit.ALL_STAGES
leaf_stages subgroups earlier (ir.ImageAtomic image coordinate array_index fun value) = bit.ALL_STAGES
leaf_stages subgroups earlier (ir.RayQuery query fun) = bit.ALL_STAGES
leaf_stages subgroups earlier (ir.RayPipelineFunction fun) = bit.ALL_STAGES
leaf_stages subgroups earlier (ir.Block body) = bit.ALL_STAGES
leaf_stages subgroups earlier (ir.If condition accept reject) = bit.ALL_STAGES
leaf_stages subgroups earlier (Switch' selector shape row) = bit.ALL_STAGES
leaf_stages subgroups earlier (ir.Loop body continuing break_if) = bit.ALL_STAGES
leaf_stages subgroups earlier ir.Break = bit.ALL_STAGES
leaf_stages subgroups earlier ir.Continue = bit.ALL_STAGES
leaf_stages subgroups earlier (ir.Return value) = bit.ALL_STAGES
leaf_stages subgroups earlier ir.Kill = bit.ALL_STAGES

-- the stages that a statement may run in: a Kill the fragment stage, a Call those of its callee, barriers and work group
-- loads those that are like compute, a cooperative store compute alone, a subgroup statement those of the settings
abbrev pub stages_of : ShaderStages → ModuleInfo → Stmt → ShaderStages
stages_of subgroups earlier (Leaf acts statement span) = leaf_stages subgroups earlier statement
stages_of subgroups earlier Kill = bit.FRAGMENT
stages_of subgroups earlier (Block b) = bit.ALL_STAGES
stages_of subgroups earlier (Branch h accept reject) = bit.ALL_STAGES
stages_of subgroups earlier (Switch h cases) = bit.ALL_STAGES
stages_of subgroups earlier (Loop b continuing q) = bit.ALL_STAGES
stages_of subgroups earlier Break = bit.ALL_STAGES
stages_of subgroups earlier Continue = bit.ALL_STAGES
stages_of subgroups earlier (Return value) = bit.ALL_STAGES

-- those of a statement of a function that is judged in this context
abbrev pub stages_in : Context → Stmt → ShaderStages
stages_in context x = stages_of context.settings.subgroup_stages context.earlier x

-- the stages that are left after a statement. A break condition takes none
abbrev pub stages_behind : Context → ShaderStages → BodyNode → ShaderStages
stages_behind context stages (StatementNode x) = meet stages (stages_in context x)
stages_behind context stages (BreakIfNode h) = stages
stages_behind context stages NoNode = stages

-- the stages that visits leave of these
abbrev pub stages_left : Context → ShaderStages → List Visit → ShaderStages
stages_left context stages [] = stages
stages_left context stages (v ∷ visits) = stages_left context (stages_behind context stages v.node) visits
