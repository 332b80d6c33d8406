-- Must: handles of the scope that every run has put where it comes to a position, and that may be used there. It depends
-- on the tree alone, so a Continue that no run reaches takes handles away all the same.
use Rattle.std.specs.Prelude.{Bool, true, false, ◌||◌, if◌then◌else◌}
use Rattle.ir_statements.specs.Tree.{Stmt, Body, Cases, Block, Branch, Switch, Continue, Done, Then, NoCase, OneCase, Leaf, Loop, Break, Return, Kill}
use Rattle.naga_runs.specs.Handles.{Handles}
use Rattle.naga_runs.specs.Positions.{Position}
use Rattle.naga_runs.specs.PutsAndUses.{acts_of, with_acts}
use Rattle.naga_runs.specs.Scope.{known_at}

-- Whether a Continue for the Loop whose body list it stands in lies in a statement, at any depth, reached or not. A
-- nested Loop takes the Continues in it for itself.
abbrev mutual
  pub holds_continue : Stmt → Bool
  holds_continue (Block b) = body_holds_continue b
  holds_continue (Branch h a r) = body_holds_continue a || body_holds_continue r
  holds_continue (Switch h cs) = cases_hold_continue cs
  holds_continue Continue = true
  holds_continue (Leaf acts statement span) = false
  holds_continue (Loop b c q) = false
  holds_continue Break = false
  holds_continue (Return v) = false
  holds_continue Kill = false

  pub body_holds_continue : Body → Bool
  body_holds_continue Done = false
  body_holds_continue (Then x b) = holds_continue x || body_holds_continue b

  pub cases_hold_continue : Cases → Bool
  cases_hold_continue NoCase = false
  cases_hold_continue (OneCase v falls b cs) = body_holds_continue b || cases_hold_continue cs

-- a set, and the puts of the statements of a Loop's body list that stand before the first that holds a Continue
abbrev pub with_sure : Handles → Body → Handles
with_sure s Done = s
with_sure s (Then x b) = if holds_continue x then s else with_sure (with_acts s (acts_of x)) b

-- Must at a position: the scope there, except that a Loop's body list counts, in its continuing part and at its break
-- condition, only before its first statement that holds a Continue.
abbrev pub must_at : Handles → Body → Position → Handles
must_at pre b p = known_at with_sure pre b p
