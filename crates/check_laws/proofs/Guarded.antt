-- Where no point of a visit fails, its uses are allowed, its puts are not in scope, and its jump is allowed; so the runs
-- of an accepted body are sure.
use Rattle.std.proofs.Common.{◌≡◌, ℕ, zero, suc, ◌≤◌, ◌==◌, ◌&&◌, ◌||◌, nat_le, nat_lt, ◌-◌, true, false, List, [], ◌∷◌, ◌++◌, None, Some, Ok, subst, refl, sym, ap, ◌∙◌, arith}
use Rattle.std.specs.Prelude.{not, is_none, map, if◌then◌else◌}
use Rattle.std.proofs.lemmas.Bool.Decides.{nat_tests}
use Rattle.ir_statements.specs.Tree.{Act, Use, Put, Leaf, Block, Branch, Switch, Loop, Break, Continue, Return, Kill}
use Rattle.ir_statements.specs.View.{emitted}
use Rattle.ir_statements.specs.declared.operations.RayPipelineFunction.TheVariants.{TraceRay}
use Rattle.ir_statements.specs.declared.statements.Statement as ir
use Rattle.ir_errors.specs.declared.expression.ExpressionError.TheVariants.{NotInScope}
use Rattle.ir_errors.specs.declared.function.FunctionError.{FunctionError}
use Rattle.ir_errors.specs.declared.function.FunctionError.TheVariants.{EmitResult, Expression, ExpressionAlreadyInScope, InvalidIfType, InvalidSwitchType, BreakOutsideOfLoopOrSwitch, ContinueOutsideOfLoop, InvalidReturnSpot, InvalidReturnType}
use Rattle.naga_runs.proofs.Judgements.{accepted_block_is_sure}
use Rattle.ir_arena.proofs.Points.{first_holds, both_hold, not_holds}
use Rattle.naga_runs.specs.Guards.{SurelyReadGuards, IsRead}
use Rattle.naga_runs.specs.Handles.{Handles, with_handle}
use Rattle.ir_arena.specs.Points.{Point, first_fault}
use Rattle.naga_runs.specs.Judgement.{viewed}
use Rattle.naga_runs.specs.Abilities.{node_jump}
use Rattle.naga_runs.specs.Positions.{BodyNode, NoNode, StatementNode, BreakIfNode}
use Rattle.naga_runs.specs.PutsAndUses.{node_acts}
use Rattle.naga_runs.specs.Soundness.{Fit, Allowed, RunsAreSure}
use Rattle.naga_runs.specs.Visits.{VisitPlace}
use Rattle.check_scope.specs.BodyTrees.{body_of, emitted_operands}
use Rattle.check_scope.specs.Context.{Context, pre_emitted}
use Rattle.check_flow.specs.walk.SwitchParts.{cases_points}
use Rattle.check_flow.specs.Emit.{within_emit, emitted_points, emit_points_from}
use Rattle.check_flow.specs.Control.{is_bool_scalar, declared_type, is_returned_as}
use Rattle.check_flow.specs.Switch.{value_points, values_of}
use Rattle.check_statement.specs.FunctionJudgement.{body_judgement}
use Rattle.check_scope.specs.ScopePoints.{Points, use_point, put_point, may_use, is_in_scope}
use Rattle.check_statement.specs.Past.{Past}
use Rattle.check_scope.specs.Results.{is_result}
use Rattle.check_statement.specs.Rules.{points_at}
use Rattle.check_statement.specs.walk.State.{State, seen, kept_rules, begin_state, state_left}
use Rattle.check_scope.specs.ExpressionTypes.{is_integer_kind, expression_at, type_at, scalar_kind_at}
use Rattle.check_memory.proofs.Atomics.{atomic_fits}
use Rattle.check_flow.proofs.Calls.{call_fits}
use Rattle.check_flow.proofs.Emits.{or_false, within_more}
use Rattle.check_resources.proofs.ImageAtomics.{image_atomic_fits}
use Rattle.check_resources.proofs.Images.{image_store_fits}
use Rattle.check_statement.proofs.Judged.{kept}
use Rattle.check_memory.proofs.CooperativeStores.{cooperative_fits}
use Rattle.check_memory.proofs.Loads.{load_fits}
use Rattle.check_resources.proofs.RayQueries.{ray_query_fits}
use Rattle.check_resources.proofs.RayTraces.{trace_ray_fits}
use Rattle.check_memory.proofs.Stores.{store_fits}
use Rattle.check_subgroups.proofs.Subgroups.{ballot_fits, collective_fits, gather_fits}

-- the operands of an expression may be used in front of it
operands_fit : (place : VisitPlace) (hs : List ℕ) (rest : Points) (s t : Handles) (acts : List Act) → ((k : ℕ) → s k ≡ may_use place k) → first_fault (map (use_point place) hs ++ rest) ≡ None →
    (first_fault rest ≡ None → Fit s t acts) → Fit s t (map Use hs ++ acts)
operands_fit place [] rest s t acts same e next = next e
operands_fit place (h ∷ hs) rest s t acts same e next =
    let here = first_holds (may_use place h) (Expression h NotInScope) (map (use_point place) hs ++ rest) e in
    (same h ∙ here.0, operands_fit place hs rest s t acts same here.1 next)

-- of an Emit each handle is new, also beside those before it, which its operands may be
emit_fits : (context : Context) (place : VisitPlace) (start n h : ℕ) (s t : Handles) → start ≤ h → ((k : ℕ) → s k ≡ may_use (within_emit place start h) k) → ((k : ℕ) → h ≤ k → t k ≡ is_in_scope place k) →
    first_fault (emit_points_from context place start h n) ≡ None → Fit s t (emitted (emitted_operands context.fun) h n)
emit_fits context place start zero h s t le inside same e = tt
emit_fits context place start (suc n) h s t le inside same e =
    let rest = emit_points_from context place start (suc h) n in
    let operands = emitted_operands context.fun h in
    let both = both_hold (emitted_points context (within_emit place start h) place h) rest e in
    let kind = first_holds (not (is_result (expression_at context h))) (EmitResult h) (map (use_point (within_emit place start h)) operands ++ put_point place h ∷ []) both.0 in
    operands_fit (within_emit place start h) operands (put_point place h ∷ []) s t (Put h ∷ emitted (emitted_operands context.fun) (suc h) n) inside kind.1 (λ last.
    let new = first_holds (not (is_in_scope place h)) (ExpressionAlreadyInScope h) [] last in (
      same h (omega arith) ∙ not_holds (is_in_scope place h) new.0,
      emit_fits context place start n (suc h) (with_handle s h) (with_handle t h) (omega (arith, le)) (λ k. ap (λ b. if h == k then true else b) (inside k) ∙ within_more (may_use place k) start h k le) (λ k more. later (is_in_scope place) t h k more same) both.1,
    ))
  where
    later : (s t : Handles) (h k : ℕ) → suc h ≤ k → ((j : ℕ) → h ≤ j → t j ≡ s j) → with_handle t h k ≡ s k
    later s t h k more same =
        let other : (h == k) ≡ false = grind (arith, nat_tests) in
        ap (λ b. if b then true else t k) other ∙ same k (omega arith)

-- in front of the first handle of a range nothing is added
pub before_first : (place : VisitPlace) (start k : ℕ) → may_use place k ≡ may_use (within_emit place start start) k
before_first place start k =
    let none : (nat_le start k && nat_lt k start) ≡ false = grind (arith, nat_tests) in
    sym (ap (λ b. may_use place k || b) none ∙ or_false (may_use place k))

use_fits : (place : VisitPlace) (h : ℕ) (ps : Points) → first_fault (use_point place h ∷ ps) ≡ None → (may_use place h ≡ true)
use_fits place h ps e = (first_holds (may_use place h) (Expression h NotInScope) ps e).0

node_fits : (context : Context) (past : Past) (place : VisitPlace) (node : BodyNode) → IsRead (emitted_operands context.fun) node → first_fault (points_at context past place node) ≡ None → Fit (may_use place) (is_in_scope place) (node_acts node) × Allowed (node_jump node) place.abilities.can_return place.abilities.can_break place.abilities.can_continue
node_fits context past place NoNode made e = (tt, tt)
node_fits context past place (BreakIfNode h) made e = ((use_fits place h ((is_bool_scalar (type_at context h), InvalidIfType h) ∷ []) e, tt), tt)
node_fits context past place (StatementNode (Leaf acts (ir.Emit r) span)) made e =
    (subst (Fit (may_use place) (is_in_scope place)) (sym made) (emit_fits context place r.start (r.end - r.start) r.start (may_use place) (is_in_scope place) (omega arith) (before_first place r.start) (λ k le. refl) e), tt)
node_fits context past place (StatementNode (Leaf acts (ir.Call f xs r) span)) made e =
    (subst (Fit (may_use place) (is_in_scope place)) (sym made) (call_fits context past.filled place f xs r e), tt)
node_fits context past place (StatementNode (Leaf acts (ir.Atomic p f v r) span)) made e =
    (subst (Fit (may_use place) (is_in_scope place)) (sym made) (atomic_fits context past.filled place p f v r e), tt)
node_fits context past place (StatementNode (Leaf acts (ir.Store p v) span)) made e =
    (subst (Fit (may_use place) (is_in_scope place)) (sym made) (store_fits context place p v e), tt)
node_fits context past place (StatementNode (Leaf acts (ir.WorkGroupUniformLoad p r) span)) made e =
    (subst (Fit (may_use place) (is_in_scope place)) (sym made) (load_fits context place p r e), tt)
node_fits context past place (StatementNode (Leaf acts (ir.CooperativeStore t d) span)) made e =
    (subst (Fit (may_use place) (is_in_scope place)) (sym made) (cooperative_fits context place t d.pointer e), tt)
node_fits context past place (StatementNode (Leaf acts (ir.ImageStore i k a v) span)) made e =
    (subst (Fit (may_use place) (is_in_scope place)) (sym made) (image_store_fits context place i k a v e), tt)
node_fits context past place (StatementNode (Leaf acts (ir.ImageAtomic i k a f v) span)) made e =
    (subst (Fit (may_use place) (is_in_scope place)) (sym made) (image_atomic_fits context place i k a f v e), tt)
node_fits context past place (StatementNode (Leaf acts (ir.RayQuery q f) span)) made e =
    (subst (Fit (may_use place) (is_in_scope place)) (sym made) (ray_query_fits context place q f e), tt)
node_fits context past place (StatementNode (Leaf acts (ir.RayPipelineFunction (TraceRay a d p)) span)) made e =
    (subst (Fit (may_use place) (is_in_scope place)) (sym made) (trace_ray_fits context past.payload place a d p e), tt)
node_fits context past place (StatementNode (Leaf acts (ir.SubgroupBallot r p) span)) made e =
    (subst (Fit (may_use place) (is_in_scope place)) (sym made) (ballot_fits context place r p e), tt)
node_fits context past place (StatementNode (Leaf acts (ir.SubgroupGather m x r) span)) made e =
    (subst (Fit (may_use place) (is_in_scope place)) (sym made) (gather_fits context place m x r e), tt)
node_fits context past place (StatementNode (Leaf acts (ir.SubgroupCollectiveOperation o k x r) span)) made e =
    (subst (Fit (may_use place) (is_in_scope place)) (sym made) (collective_fits context place o k x r e), tt)
node_fits context past place (StatementNode (Leaf acts _ span)) made e = (subst (Fit (may_use place) (is_in_scope place)) (sym made) tt, tt)
node_fits context past place (StatementNode (Block b)) made e = (tt, tt)
node_fits context past place (StatementNode (Branch h x y)) made e = ((use_fits place h ((is_bool_scalar (type_at context h), InvalidIfType h) ∷ []) e, tt), tt)
node_fits context past place (StatementNode (Switch h cs)) made e =
    ((use_fits place h ((is_integer_kind (scalar_kind_at context h), InvalidSwitchType h) ∷ (value_points (scalar_kind_at context h) [] (values_of cs) ++ cases_points cs)) e, tt), tt)
node_fits context past place (StatementNode (Loop b c q)) made e = (tt, tt)
node_fits context past place (StatementNode Break) made e = (tt, (first_holds place.abilities.can_break BreakOutsideOfLoopOrSwitch [] e).0)
node_fits context past place (StatementNode Continue) made e = (tt, (first_holds place.abilities.can_continue ContinueOutsideOfLoop [] e).0)
node_fits context past place (StatementNode (Return None)) made e =
    (tt, (first_holds place.abilities.can_return InvalidReturnSpot ((is_none (declared_type context), InvalidReturnType None (declared_type context)) ∷ []) e).0)
node_fits context past place (StatementNode (Return (Some v))) made e =
    let type_point : Point FunctionError = (is_returned_as context v (declared_type context), InvalidReturnType (Some v) (declared_type context)) in
    let able = first_holds place.abilities.can_return InvalidReturnSpot (use_point place v ∷ type_point ∷ []) e in
    ((use_fits place v (type_point ∷ []) able.1, tt), able.0)
node_fits context past place (StatementNode Kill) made e = (tt, tt)

pub guards : (context : Context) → SurelyReadGuards (kept_rules context) (emitted_operands context.fun)
guards context st v made e = node_fits context (seen st) v.place v.node made e

pub accepted_is_sure : (context : Context) (state : State) → viewed (state_left context) (body_judgement context) ≡ Ok state → RunsAreSure (pre_emitted context) (body_of context.fun)
accepted_is_sure context state e =
    (accepted_block_is_sure (kept_rules context) (emitted_operands context.fun) (guards context) (begin_state context) state (pre_emitted context) context.fun.body (kept context ∙ e)).1
