-- Abilities: which jumps a position allows, by the parts of its steps alone. `able` is the answer further out.
use Rattle.std.specs.List.{list_any}
use Rattle.std.specs.Option.{option_or}
use Rattle.std.specs.Prelude.{Bool, true, false, not, Option, Some, None, ◌≡◌, ◌∷◌, if◌then◌else◌, []}
use Rattle.ir_statements.specs.Tree.{Stmt, Break, Continue, Return, Leaf, Block, Branch, Switch, Loop, Kill}
use Rattle.naga_runs.specs.Positions.{Part, PositionStep, Position, BodyNode, Case, LoopBody, Continuing, In, StatementNode}

-- Return is allowed where no step is a continuing part.
abbrev pub may_return_from : Bool → Position → Bool
may_return_from able [] = able
may_return_from able (In Continuing i ∷ p) = may_return_from false p
may_return_from able (In _ i ∷ p) = may_return_from able p

-- Break is allowed where there is a last step among case, body and continuing, and it is not continuing.
abbrev pub may_break_from : Bool → Position → Bool
may_break_from able [] = able
may_break_from able (In (Case k) i ∷ p) = may_break_from true p
may_break_from able (In LoopBody i ∷ p) = may_break_from true p
may_break_from able (In Continuing i ∷ p) = may_break_from false p
may_break_from able (In _ i ∷ p) = may_break_from able p

-- Continue is allowed where there is a last step among body and continuing, and it is body.
abbrev pub may_continue_from : Bool → Position → Bool
may_continue_from able [] = able
may_continue_from able (In LoopBody i ∷ p) = may_continue_from true p
may_continue_from able (In Continuing i ∷ p) = may_continue_from false p
may_continue_from able (In _ i ∷ p) = may_continue_from able p

abbrev pub may_return : Position → Bool
may_return p = may_return_from true p

abbrev pub may_break : Position → Bool
may_break p = may_break_from false p

abbrev pub may_continue : Position → Bool
may_continue p = may_continue_from false p

abbrev pub part_of : PositionStep → Part
part_of (In part i) = part

-- the last part of a position's steps that passes a test
abbrev pub last_among : (Part → Bool) → Position → Option Part
last_among test [] = None
last_among test (In part i ∷ p) = option_or (last_among test p) (if test part then Some part else None)

abbrev pub is_continuing : Part → Bool
is_continuing Continuing = true
is_continuing _ = false

abbrev pub is_loop_list : Part → Bool
is_loop_list LoopBody = true
is_loop_list Continuing = true
is_loop_list _ = false

abbrev pub is_case_or_loop_list : Part → Bool
is_case_or_loop_list (Case k) = true
is_case_or_loop_list part = is_loop_list part

-- there is one, and it is not a continuing part
abbrev pub is_another : Option Part → Bool
is_another None = false
is_another (Some part) = not (is_continuing part)

-- The abilities word by word.
pub record AbilitiesByLastStep : Type 0 where
  pub return : (p : Position) → may_return p ≡ not (list_any (λ step. is_continuing (part_of step)) p)
  pub break : (p : Position) → may_break p ≡ is_another (last_among is_case_or_loop_list p)
  pub continue : (p : Position) → may_continue p ≡ is_another (last_among is_loop_list p)

-- what a statement asks for
pub data Jump : Type 0 where
  NoJump : Jump
  ToBreak : Jump
  ToContinue : Jump
  ToReturn : Jump

abbrev pub jump_of : Stmt → Jump
jump_of Break = ToBreak
jump_of Continue = ToContinue
jump_of (Return v) = ToReturn
jump_of (Leaf acts statement span) = NoJump
jump_of (Block b) = NoJump
jump_of (Branch h a r) = NoJump
jump_of (Switch h cases) = NoJump
jump_of (Loop b c q) = NoJump
jump_of Kill = NoJump

abbrev pub node_jump : BodyNode → Jump
node_jump (StatementNode x) = jump_of x
node_jump _ = NoJump
