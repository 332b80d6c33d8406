-- From a judgement to the law over runs.
use Rattle.std.specs.List.{AllByRecursion}
use Rattle.std.specs.Prelude.{⊤, ℕ, List, None, Ok, ◌≡◌}
use Rattle.ir_statements.specs.Tree.{Body, Leaf, Block as Nested, Branch, Switch, Loop, Break, Continue, Return, Kill}
use Rattle.ir_statements.specs.declared.statements.Block.{Block}
use Rattle.ir_statements.specs.View.{statement_acts, body_of}
use Rattle.naga_runs.specs.Abilities.{node_jump}
use Rattle.naga_runs.specs.Handles.{Handles}
use Rattle.ir_arena.specs.Points.{first_fault}
use Rattle.naga_runs.specs.Judgement.{Rules, judgement}
use Rattle.naga_runs.specs.Positions.{BodyNode, NoNode, StatementNode, BreakIfNode, node_at}
use Rattle.naga_runs.specs.PutsAndUses.{node_acts}
use Rattle.naga_runs.specs.Soundness.{Fit, Allowed, IsSurelyFit, RunsAreSure}
use Rattle.naga_runs.specs.VisitOrder.{positions}
use Rattle.naga_runs.specs.Visits.{Visit}

-- what stands at a visit fits
abbrev pub FitsIn : Visit → Type 0
FitsIn v =
    Fit v.place.must v.place.scope (node_acts v.node)
    × Allowed (node_jump v.node)
    v.place.abilities.can_return v.place.abilities.can_break v.place.abilities.can_continue

-- Rules guard the acts and the jump of a visit: where none of its points fails, each use is among the handles that every
-- run has put, no put is in scope, and the jump is allowed.
abbrev pub SurelyGuards : {State Fault : Type 0} → Rules State Fault → Type 0
SurelyGuards {State} {Fault} R =
    (st : State) (v : Visit) → first_fault (R.points st v) ≡ None → FitsIn v

-- All runs of a body that such rules accept are sure.
abbrev pub AcceptedIsSure : {State Fault : Type 0} → Rules State Fault → Type 0
AcceptedIsSure {State} {Fault} R =
    SurelyGuards R → (st end : State) (pre : Handles) (b : Body) →
    judgement R st pre b ≡ Ok end → IsSurelyFit pre b × RunsAreSure pre b

-- what stands there has the acts that are read off its statement, where these are the operands of each expression
abbrev pub IsRead : (ℕ → List ℕ) → BodyNode → Type 0
IsRead operands (StatementNode (Leaf acts x span)) = acts ≡ statement_acts operands x
IsRead operands (StatementNode (Nested b)) = ⊤
IsRead operands (StatementNode (Branch h a e)) = ⊤
IsRead operands (StatementNode (Switch h cs)) = ⊤
IsRead operands (StatementNode (Loop b d q)) = ⊤
IsRead operands (StatementNode Break) = ⊤
IsRead operands (StatementNode Continue) = ⊤
IsRead operands (StatementNode (Return v)) = ⊤
IsRead operands (StatementNode Kill) = ⊤
IsRead operands NoNode = ⊤
IsRead operands (BreakIfNode h) = ⊤

-- A block of the IR has a tree in which everything is.
abbrev pub BlocksAreRead : Type 0
BlocksAreRead =
    (operands : ℕ → List ℕ) (block : Block) →
    AllByRecursion (λ p. IsRead operands (node_at (body_of operands block) p)) (positions (body_of operands block))

-- Rules that look at the statement itself, and not at the acts beside it in the tree, can guard only what is read.
abbrev pub SurelyReadGuards : {State Fault : Type 0} → Rules State Fault → (ℕ → List ℕ) → Type 0
SurelyReadGuards {State} {Fault} R operands =
    (st : State) (v : Visit) → IsRead operands v.node →
    first_fault (R.points st v) ≡ None → FitsIn v

-- All runs of a block that such rules accept are sure.
abbrev pub AcceptedBlockIsSure : {State Fault : Type 0} → Rules State Fault → Type 0
AcceptedBlockIsSure {State} {Fault} R =
    (operands : ℕ → List ℕ) → SurelyReadGuards R operands → (st end : State) (pre : Handles) (block : Block) →
    judgement R st pre (body_of operands block) ≡ Ok end →
    IsSurelyFit pre (body_of operands block) × RunsAreSure pre (body_of operands block)
