-- Positions: where a statement or a break condition stands in the statement tree of a body.
use Rattle.std.specs.Prelude.{ℕ, zero, suc, List, Option, Some, None, ◌∷◌, []}
use Rattle.ir_statements.specs.Tree.{Stmt, Body, Cases, Leaf, Block, Branch, Switch, Loop, Break, Continue, Return, Kill, Done, Then, NoCase, OneCase}

-- A part of a body or of a statement: the body's own list, the list of a Block, the two lists of an If, the list of
-- case k of a Switch, the two lists of a Loop, and a Loop's break condition, which counts as a part of its own.
pub data Part : Type 0 where
  Root : Part
  Inner : Part
  Accept : Part
  Reject : Part
  Case : (k : ℕ) → Part
  LoopBody : Part
  Continuing : Part
  Condition : Part

-- One step inwards: to the statement with this index in a part. A break condition has index 0.
pub data PositionStep : Type 0 where
  In : (part : Part) (index : ℕ) → PositionStep

-- The steps from the body inwards. An ancestor of a position is a proper beginning of it; two siblings differ in the
-- index of their last step alone.
abbrev pub Position : Type 0
Position = List PositionStep

-- What stands at a position.
pub data BodyNode : Type 0 where
  NoNode : BodyNode
  StatementNode : (statement : Stmt) → BodyNode
  BreakIfNode : (condition : ℕ) → BodyNode

-- the statement with this index in a list
abbrev pub statement_at : Body → ℕ → Option Stmt
statement_at Done i = None
statement_at (Then x b) zero = Some x
statement_at (Then x b) (suc i) = statement_at b i

-- the list of case k
abbrev pub case_at : Cases → ℕ → Body
case_at NoCase k = Done
case_at (OneCase v falls b cs) zero = b
case_at (OneCase v falls b cs) (suc k) = case_at cs k

-- the list of statements in a part of a statement
abbrev pub list_in : Option Stmt → Part → Body
list_in None part = Done
list_in (Some (Leaf acts statement span)) part = Done
list_in (Some (Block b)) Inner = b
list_in (Some (Block b)) _ = Done
list_in (Some (Branch h a r)) Accept = a
list_in (Some (Branch h a r)) Reject = r
list_in (Some (Branch h a r)) _ = Done
list_in (Some (Switch h cs)) (Case k) = case_at cs k
list_in (Some (Switch h cs)) _ = Done
list_in (Some (Loop b c q)) LoopBody = b
list_in (Some (Loop b c q)) Continuing = c
list_in (Some (Loop b c q)) _ = Done
list_in (Some Break) part = Done
list_in (Some Continue) part = Done
list_in (Some (Return value)) part = Done
list_in (Some Kill) part = Done

-- the list that a position goes on in, below a statement
abbrev pub list_below : Option Stmt → Position → Body
list_below x [] = Done
list_below x (In part i ∷ p) = list_in x part

abbrev pub statement_node : Option Stmt → BodyNode
statement_node None = NoNode
statement_node (Some x) = StatementNode x

abbrev pub condition_node : Option ℕ → BodyNode
condition_node None = NoNode
condition_node (Some h) = BreakIfNode h

-- what stands at the rest of a position below a statement, where `deeper` is what stands there in the list that the
-- position goes on in
abbrev pub node_below : Option Stmt → Position → BodyNode → BodyNode
node_below x [] deeper = statement_node x
node_below (Some (Loop b c q)) (In Condition zero ∷ []) deeper = condition_node q
node_below _ _ deeper = deeper

-- What stands at a position of a list.
abbrev pub node_at : Body → Position → BodyNode
node_at b [] = NoNode
node_at b (In part i ∷ p) = node_below (statement_at b i) p (node_at (list_below (statement_at b i) p) p)
