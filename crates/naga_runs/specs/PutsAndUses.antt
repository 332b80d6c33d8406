-- Puts and uses: what a statement does with handles itself, without what its parts do.
use Rattle.std.specs.Prelude.{ℕ, List, ◌∷◌, ◌++◌, []}
use Rattle.ir_statements.specs.Tree.{Act, Stmt, Body, Use, Put, Leaf, Branch, Switch, Return, Done, Then, Block, Loop, Break, Continue, Kill}
use Rattle.ir_statements.specs.View.{used_if}
use Rattle.naga_runs.specs.Handles.{Handles, with_handle}
use Rattle.naga_runs.specs.Positions.{BodyNode, NoNode, StatementNode, BreakIfNode}

-- The acts of a statement in order. An If uses its condition, a Switch its selector, a Return its value if it has
-- one; Block, Loop, Break, Continue and Kill do nothing themselves. Every other kind is a leaf of the tree, which has
-- its acts from the statement that it stands for.
abbrev pub acts_of : Stmt → List Act
acts_of (Leaf acts x span) = acts
acts_of (Branch h a r) = Use h ∷ []
acts_of (Switch h cs) = Use h ∷ []
acts_of (Return v) = used_if v
acts_of (Block b) = []
acts_of (Loop b c q) = []
acts_of Break = []
acts_of Continue = []
acts_of Kill = []

-- A break condition uses its one handle.
abbrev pub node_acts : BodyNode → List Act
node_acts NoNode = []
node_acts (StatementNode x) = acts_of x
node_acts (BreakIfNode h) = Use h ∷ []

-- the handles that acts put, in order
abbrev pub puts_of : List Act → List ℕ
puts_of [] = []
puts_of (Use h ∷ acts) = puts_of acts
puts_of (Put h ∷ acts) = h ∷ puts_of acts

-- the puts of all statements of a list; those in their parts don't count
abbrev pub body_puts : Body → List ℕ
body_puts Done = []
body_puts (Then x b) = puts_of (acts_of x) ++ body_puts b

-- a set, and what acts put
abbrev pub with_acts : Handles → List Act → Handles
with_acts s [] = s
with_acts s (Use h ∷ acts) = with_acts s acts
with_acts s (Put h ∷ acts) = with_acts (with_handle s h) acts

-- a set, and the puts of all statements of a list
abbrev pub with_body : Handles → Body → Handles
with_body s Done = s
with_body s (Then x b) = with_body (with_acts s (acts_of x)) b
