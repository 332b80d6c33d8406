-- The plainest rules: uses, puts and jumps alone. They show that the premises of the law over judgements can be met.
use Rattle.std.specs.Prelude.{ℕ, suc, not, List, Ok, Err, ◌≡◌, ◌∷◌, ◌++◌, []}
use Rattle.ir_statements.specs.Tree.{Act, Use, Put, Leaf}
use Rattle.ir_statements.specs.View.{statement_acts}
use Rattle.naga_runs.specs.Abilities.{Jump, node_jump, NoJump, ToBreak, ToContinue, ToReturn}
use Rattle.naga_runs.specs.Guards.{SurelyGuards, SurelyReadGuards}
use Rattle.naga_runs.specs.Handles.{Handles, with_handle}
use Rattle.ir_arena.specs.Points.{Point}
use Rattle.naga_runs.specs.Judgement.{Rules, judgement}
use Rattle.naga_runs.specs.Positions.{BodyNode, StatementNode}
use Rattle.naga_runs.specs.PutsAndUses.{node_acts}
use Rattle.naga_runs.specs.Samples.{given, skipping_loop, sure_loop}
use Rattle.naga_runs.specs.Visits.{Visit}
use Rattle.naga_runs.specs.declared.Abilities.{Abilities}

pub data PlainFault : Type 0 where
  NotInScope : (handle : ℕ) → PlainFault
  AlreadyInScope : (handle : ℕ) → PlainFault
  BreakOutside : PlainFault
  ContinueOutside : PlainFault
  ReturnInContinuing : PlainFault

abbrev pub act_points : Handles → Handles → List Act → List (Point PlainFault)
act_points known scope [] = []
act_points known scope (Use h ∷ acts) = (known h, NotInScope h) ∷ act_points known scope acts
act_points known scope (Put h ∷ acts) =
    (not (scope h), AlreadyInScope h) ∷ act_points (with_handle known h) (with_handle scope h) acts

abbrev pub jump_points : Abilities → Jump → List (Point PlainFault)
jump_points a NoJump = []
jump_points a ToBreak = (a.can_break, BreakOutside) ∷ []
jump_points a ToContinue = (a.can_continue, ContinueOutside) ∷ []
jump_points a ToReturn = (a.can_return, ReturnInContinuing) ∷ []

abbrev pub plain_points : Visit → List (Point PlainFault)
plain_points v =
    jump_points v.place.abilities (node_jump v.node) ++ act_points v.place.must v.place.scope (node_acts v.node)

-- each use is among the handles that every run has put, no put is in scope; the state counts the visits
abbrev pub plain_rules : Rules ℕ PlainFault
plain_rules = record { points = λ n v. plain_points v; advance = λ n v. suc n }

-- the acts that are read off the statement itself, where these are the operands of each expression
abbrev pub read_acts : (ℕ → List ℕ) → BodyNode → List Act
read_acts operands (StatementNode (Leaf acts x span)) = statement_acts operands x
read_acts operands node = node_acts node

-- the same rules, but that they look at the statement itself
abbrev pub read_points : (ℕ → List ℕ) → Visit → List (Point PlainFault)
read_points operands v =
    jump_points v.place.abilities (node_jump v.node)
    ++ act_points v.place.must v.place.scope (read_acts operands v.node)

abbrev pub reading_rules : (ℕ → List ℕ) → Rules ℕ PlainFault
reading_rules operands = record { points = λ n v. read_points operands v; advance = λ n v. suc n }

-- They guard what stands at a visit, and accept some bodies and refuse others.
pub record PlainRulesGuard : Type 0 where
  pub guards : SurelyGuards plain_rules
  pub refuses : judgement plain_rules 0 given skipping_loop ≡ Err (NotInScope 3)
  pub accepts : judgement plain_rules 0 given sure_loop ≡ Ok 5
  pub guards_read : (operands : ℕ → List ℕ) → SurelyReadGuards (reading_rules operands) operands
