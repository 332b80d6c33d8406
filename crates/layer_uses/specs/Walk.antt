-- The uses of globals by the statements of a body.
use Rattle.std.specs.Prelude.{ℕ, List, [], ◌∷◌, Option, None, Some, slice_get}
use Rattle.std.specs.Option.{option_map}
use Rattle.ir_flags.specs.Bits.{READ, WRITE, ATOMIC_USE}
use Rattle.ir_flags.specs.declared.valid.GlobalUse.{GlobalUse}
use Rattle.ir_facts.specs.declared.valid.info.FunctionInfo.{FunctionInfo}
use Rattle.ir_facts.specs.declared.valid.info.ModuleInfo.{ModuleInfo}
use Rattle.ir_facts.specs.Infos.{joined}
use Rattle.ir_module.specs.declared.module.GlobalVariable.{GlobalVariable}
use Rattle.ir_statements.specs.declared.operations.RayPipelineFunction.{RayPipelineFunction}
use Rattle.ir_statements.specs.declared.operations.RayPipelineFunction.TheVariants.{TraceRay}
use Rattle.ir_statements.specs.declared.operations.RayQueryFunction.{RayQueryFunction}
use Rattle.ir_statements.specs.declared.operations.RayQueryFunction.TheVariants as query
use Rattle.ir_statements.specs.declared.statements.Statement.{Statement, Switch'}
use Rattle.ir_statements.specs.declared.statements.Statement.TheVariants as s
use Rattle.ir_statements.specs.Tree.{Stmt, Leaf, Block, Branch, Switch, Loop, Break, Continue, Return, Kill, Body, Done, Then, Cases, NoCase, OneCase}
use Rattle.ir_types.specs.declared.types.AddressSpace.{AddressSpace}
use Rattle.ir_types.specs.declared.types.AddressSpace.TheVariants as space
use Rattle.layer_uses.specs.Joins.{with_use, all_joined}
use Rattle.layer_uses.specs.GlobalRoots.{root_at}

-- read and written
abbrev pub BOTH : GlobalUse
BOTH = joined (Some READ) WRITE

-- what is given to a call: a resource is read, what is pointed to is read and written
abbrev pub space_use : Option AddressSpace → GlobalUse
space_use (Some space.Handle) = READ
space_use (Some space.Function) = BOTH
space_use (Some space.Private) = BOTH
space_use (Some space.WorkGroup) = BOTH
space_use (Some space.Uniform) = BOTH
space_use (Some (space.Storage access)) = BOTH
space_use (Some space.Immediate) = BOTH
space_use (Some space.TaskPayload) = BOTH
space_use (Some space.RayPayload) = BOTH
space_use (Some space.IncomingRayPayload) = BOTH
space_use None = BOTH

abbrev pub call_use : List GlobalVariable → Option ℕ → GlobalUse
call_use globals None = BOTH
call_use globals (Some g) = space_use (option_map (λ v. v.space) (slice_get globals g))

unfoldable pub argument_uses : List GlobalVariable → List (Option ℕ) → List GlobalUse → List ℕ → List GlobalUse
argument_uses globals roots uses [] = uses
argument_uses globals roots uses (h ∷ hs) =
    argument_uses globals roots (with_use uses (root_at roots h) (call_use globals (root_at roots h))) hs

-- a call joins in the uses of its callee
abbrev pub callee_uses : List GlobalUse → Option FunctionInfo → List GlobalUse
callee_uses uses None = uses
callee_uses uses (Some info) = all_joined uses info.global_uses

abbrev pub call_uses : List GlobalVariable → ModuleInfo → List (Option ℕ) → List GlobalUse → ℕ → List ℕ → List GlobalUse
call_uses globals infos roots uses f hs = argument_uses globals roots (callee_uses uses (slice_get infos.functions f)) hs

-- a ray query reads its acceleration structure
abbrev pub query_uses : List (Option ℕ) → List GlobalUse → RayQueryFunction → List GlobalUse
query_uses roots uses (query.Initialize structure descriptor) = with_use uses (root_at roots structure) READ
query_uses roots uses _ = uses

-- a ray that is traced reads its acceleration structure, and reads and writes its payload
abbrev pub pipeline_uses : List (Option ℕ) → List GlobalUse → RayPipelineFunction → List GlobalUse
pipeline_uses roots uses (TraceRay structure descriptor payload) =
    with_use (with_use uses (root_at roots structure) READ) (root_at roots payload) BOTH

-- of a module's globals, the infos of the functions before, and the roots of the function's expressions
module _ (globals : List GlobalVariable) (infos : ModuleInfo) (roots : List (Option ℕ)) where
  -- a statement that neither jumps nor holds others
  abbrev pub leaf_uses : List GlobalUse → Statement → List GlobalUse
  leaf_uses uses (s.Store pointer value) = with_use uses (root_at roots pointer) WRITE
  leaf_uses uses (s.ImageStore image coordinate index value) = with_use uses (root_at roots image) WRITE
  leaf_uses uses (s.Atomic pointer fun value result) = with_use uses (root_at roots pointer) BOTH
  leaf_uses uses (s.ImageAtomic image coordinate index fun value) = with_use uses (root_at roots image) ATOMIC_USE
  leaf_uses uses (s.WorkGroupUniformLoad pointer result) = with_use uses (root_at roots pointer) READ
  leaf_uses uses (s.Call f arguments result) = call_uses globals infos roots uses f arguments
  leaf_uses uses (s.RayQuery q fun) = query_uses roots uses fun
  leaf_uses uses (s.CooperativeStore target source) = with_use uses (root_at roots source.pointer) WRITE
  leaf_uses uses (s.RayPipelineFunction fun) = pipeline_uses roots uses fun
  leaf_uses uses (s.Emit range) = uses
  leaf_uses uses (s.Block body) = uses
  leaf_uses uses (s.If condition accept reject) = uses
  leaf_uses uses (Switch' selector shape row) = uses
  leaf_uses uses (s.Loop body continuing break_if) = uses
  leaf_uses uses s.Break = uses
  leaf_uses uses s.Continue = uses
  leaf_uses uses (s.Return value) = uses
  leaf_uses uses s.Kill = uses
  leaf_uses uses (s.ControlBarrier barrier) = uses
  leaf_uses uses (s.MemoryBarrier barrier) = uses
  leaf_uses uses (s.SubgroupBallot result predicate) = uses
  leaf_uses uses (s.SubgroupCollectiveOperation op collective_op argument result) = uses
  leaf_uses uses (s.SubgroupGather mode argument result) = uses

  -- each statement at any depth, whether or not it can be reached
  abbrev mutual
    pub statement_uses : List GlobalUse → Stmt → List GlobalUse
    statement_uses uses (Leaf acts x span) = leaf_uses uses x
    statement_uses uses (Block b) = body_uses uses b
    statement_uses uses (Branch c a r) = body_uses (body_uses uses a) r
    statement_uses uses (Switch h cs) = cases_uses uses cs
    statement_uses uses (Loop b c q) = body_uses (body_uses uses b) c
    statement_uses uses Break = uses
    statement_uses uses Continue = uses
    statement_uses uses (Return value) = uses
    statement_uses uses Kill = uses

    pub body_uses : List GlobalUse → Body → List GlobalUse
    body_uses uses Done = uses
    body_uses uses (Then first rest) = body_uses (statement_uses uses first) rest

    pub cases_uses : List GlobalUse → Cases → List GlobalUse
    cases_uses uses NoCase = uses
    cases_uses uses (OneCase v falls b rest) = cases_uses (body_uses uses b) rest
