-- The plainest rules guard what stands at a visit.
use Rattle.std.specs.Prelude.{ℕ, List, None, ◌≡◌, ◌∷◌, ◌++◌, []}
use Rattle.std.proofs.Common.{refl, sym, subst}
use Rattle.ir_statements.specs.Tree.{Act, Use, Put, Leaf, Block, Branch, Switch, Loop, Break, Continue, Return, Kill}
use Rattle.naga_runs.specs.Abilities.{Jump, node_jump, NoJump, ToBreak, ToContinue, ToReturn}
use Rattle.naga_runs.specs.Guards.{FitsIn, IsRead}
use Rattle.naga_runs.specs.Handles.{Handles, with_handle}
use Rattle.ir_arena.specs.Points.{Point, first_fault}
use Rattle.naga_runs.specs.Judgement.{state_after, judgement}
use Rattle.naga_runs.specs.PlainRules.{PlainFault, act_points, jump_points, plain_points, read_acts, read_points, PlainRulesGuard}
use Rattle.naga_runs.specs.Positions.{BodyNode, NoNode, StatementNode, BreakIfNode}
use Rattle.naga_runs.specs.PutsAndUses.{node_acts}
use Rattle.naga_runs.specs.Soundness.{Fit, Allowed}
use Rattle.naga_runs.specs.Visits.{Visit}
use Rattle.naga_runs.specs.declared.Abilities.{Abilities}
use Rattle.ir_arena.proofs.Points.{first_holds, not_holds}

acts_fit : (known scope : Handles) (acts : List Act) → first_fault (act_points known scope acts) ≡ None →
    Fit known scope acts
acts_fit known scope [] e = tt
acts_fit known scope (Use h ∷ acts) e =
    let f = first_holds _ _ (act_points known scope acts) e in (f.0, acts_fit known scope acts f.1)
acts_fit known scope (Put h ∷ acts) e =
    let f = first_holds _ _ (act_points (with_handle known h) (with_handle scope h) acts) e in
    (not_holds (scope h) f.0, acts_fit (with_handle known h) (with_handle scope h) acts f.1)

jump_allowed : (a : Abilities) (jump : Jump) (rest : List (Point PlainFault)) →
    first_fault (jump_points a jump ++ rest) ≡ None → Allowed jump a.can_return a.can_break a.can_continue ×
    (first_fault rest ≡ None)
jump_allowed a NoJump rest e = (tt, e)
jump_allowed a ToBreak rest e = first_holds _ _ rest e
jump_allowed a ToContinue rest e = first_holds _ _ rest e
jump_allowed a ToReturn rest e = first_holds _ _ rest e

points_fit : (a : Abilities) (jump : Jump) (known scope : Handles) (acts : List Act) →
    first_fault (jump_points a jump ++ act_points known scope acts) ≡ None →
    Fit known scope acts × Allowed jump a.can_return a.can_break a.can_continue
points_fit a jump known scope acts e =
    let f = jump_allowed a jump (act_points known scope acts) e in (acts_fit known scope acts f.1, f.0)

visit_fits : (v : Visit) → first_fault (plain_points v) ≡ None → FitsIn v
visit_fits v e = points_fit v.place.abilities (node_jump v.node) v.place.must v.place.scope (node_acts v.node) e

read_is : (operands : ℕ → List ℕ) (node : BodyNode) → IsRead operands node → read_acts operands node ≡ node_acts node
read_is operands NoNode r = refl
read_is operands (BreakIfNode h) r = refl
read_is operands (StatementNode (Leaf acts x span)) r = sym r
read_is operands (StatementNode (Block b)) r = refl
read_is operands (StatementNode (Branch h a e)) r = refl
read_is operands (StatementNode (Switch h cs)) r = refl
read_is operands (StatementNode (Loop b c q)) r = refl
read_is operands (StatementNode Break) r = refl
read_is operands (StatementNode Continue) r = refl
read_is operands (StatementNode (Return v)) r = refl
read_is operands (StatementNode Kill) r = refl

read_fits : (operands : ℕ → List ℕ) (v : Visit) → IsRead operands v.node →
    first_fault (read_points operands v) ≡ None → FitsIn v
read_fits operands v r e =
    let f =
    points_fit v.place.abilities (node_jump v.node) v.place.must v.place.scope (read_acts operands v.node) e in
    (subst (λ acts. Fit v.place.must v.place.scope acts) (read_is operands v.node r) f.0, f.1)

pub plain_rules_guard : PlainRulesGuard
unfolding judgement state_after
plain_rules_guard =
    record {
      guards = λ n v e. visit_fits v e;
      refuses = refl;
      accepts = refl;
      guards_read = λ operands n v r e. read_fits operands v r e;
    }
