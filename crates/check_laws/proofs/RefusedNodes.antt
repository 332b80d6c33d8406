-- What the points at any visit say where they fail.
use Rattle.std.proofs.Common.{◌≡◌, ◌-◌, Bool, true, false, [], None, Some, subst, sym, arith}
use Rattle.std.specs.Prelude.{⊤}
use Rattle.ir_statements.specs.Tree.{Leaf, Block, Branch, Switch, Loop, Break, Continue, Return, Kill}
use Rattle.ir_statements.specs.View.{statement_acts}
use Rattle.ir_statements.specs.declared.operations.RayPipelineFunction.TheVariants.{TraceRay}
use Rattle.ir_statements.specs.declared.statements.Statement.{Statement}
use Rattle.ir_statements.specs.declared.statements.Statement as ir
use Rattle.naga_runs.specs.Abilities.{node_jump}
use Rattle.naga_runs.specs.Guards.{IsRead}
use Rattle.naga_runs.specs.Positions.{BodyNode, NoNode, StatementNode, BreakIfNode}
use Rattle.naga_runs.specs.PutsAndUses.{node_acts}
use Rattle.naga_runs.specs.Soundness.{Allowed}
use Rattle.naga_runs.specs.Visits.{VisitPlace}
use Rattle.check_scope.specs.BodyTrees.{emitted_operands}
use Rattle.check_scope.specs.Context.{Context}
use Rattle.check_statement.specs.Past.{Past}
use Rattle.check_statement.specs.Rules.{leaf_points, points_at}
use Rattle.check_laws.proofs.Guarded.{before_first}
use Rattle.check_laws.proofs.Refused.{Answered, first_use}
use Rattle.check_laws.proofs.RefusedFlow.{emit_answered, call_answered, condition_answered, switch_answered}
use Rattle.check_laws.proofs.RefusedMemory.{atomic_answered, store_answered, load_answered, cooperative_answered}
use Rattle.check_laws.proofs.RefusedImages.{image_store_answered, image_atomic_answered}
use Rattle.check_laws.proofs.RefusedRays.{ray_query_answered, trace_ray_answered}
use Rattle.check_laws.proofs.RefusedSubgroups.{ballot_answered, collective_answered, gather_answered, barrier_answered}

-- whether what stands there has its ability
abbrev pub Able : VisitPlace → BodyNode → Type 0
Able place node =
    Allowed (node_jump node) place.abilities.can_return place.abilities.can_break place.abilities.can_continue

lacking : (b : Bool) → b ≡ false → b ≡ true → ⊥
lacking true e f = cc
lacking false e f = cc

leaf_answered : (context : Context) (past : Past) (place : VisitPlace) (x : Statement) →
    Answered place.must (statement_acts (emitted_operands context.fun) x) ⊤ (leaf_points context past place x)
leaf_answered context past place (ir.Emit r) =
    emit_answered context place r.start (r.end - r.start) r.start place.must (omega arith)
    (before_first place r.start)
leaf_answered context past place (ir.Call f xs r) = call_answered context past.filled place f xs r
leaf_answered context past place (ir.Atomic p f v r) = atomic_answered context place past.filled p f v r
leaf_answered context past place (ir.Store p v) = store_answered context place p v
leaf_answered context past place (ir.WorkGroupUniformLoad p r) = load_answered context place p r
leaf_answered context past place (ir.CooperativeStore t d) = cooperative_answered context place t d.pointer
leaf_answered context past place (ir.ImageStore i c a v) = image_store_answered context place i c a v
leaf_answered context past place (ir.ImageAtomic i c a f v) = image_atomic_answered context place i c a f v
leaf_answered context past place (ir.RayQuery q f) = ray_query_answered context place q f
leaf_answered context past place (ir.RayPipelineFunction (TraceRay a d p)) =
    trace_ray_answered context place past.payload a d p
leaf_answered context past place (ir.SubgroupBallot r p) = ballot_answered context place r p
leaf_answered context past place (ir.SubgroupGather m x r) = gather_answered context place m x r
leaf_answered context past place (ir.SubgroupCollectiveOperation o k x r) = collective_answered context place o k x r
leaf_answered context past place (ir.ControlBarrier b) = barrier_answered context place b
leaf_answered context past place (ir.MemoryBarrier b) = barrier_answered context place b
leaf_answered context past place _ = tt

pub node_answered : (context : Context) (past : Past) (place : VisitPlace) (node : BodyNode) →
    IsRead (emitted_operands context.fun) node →
    Answered place.must (node_acts node) (Able place node) (points_at context past place node)
node_answered context past place NoNode made = tt
node_answered context past place (BreakIfNode h) made = condition_answered context place h
node_answered context past place (StatementNode (Leaf acts x span)) made =
    subst (λ acts. Answered place.must acts ⊤ (leaf_points context past place x)) (sym made)
    (leaf_answered context past place x)
node_answered context past place (StatementNode (Block b)) made = tt
node_answered context past place (StatementNode (Branch h a r)) made = condition_answered context place h
node_answered context past place (StatementNode (Switch h cases)) made = switch_answered context place h cases
node_answered context past place (StatementNode (Loop b c q)) made = tt
node_answered context past place (StatementNode Break) made = (lacking place.abilities.can_break, tt)
node_answered context past place (StatementNode Continue) made = (lacking place.abilities.can_continue, tt)
node_answered context past place (StatementNode (Return None)) made =
    (lacking place.abilities.can_return, (λ e. tt, tt))
node_answered context past place (StatementNode (Return (Some v))) made =
    (lacking place.abilities.can_return, (λ e. first_use place.must [] v e, (λ e. tt, tt)))
node_answered context past place (StatementNode Kill) made = tt
