-- The block of the IR that a tree of the notation stands for. A leaf is its own statement at its own span; every other
-- statement has the span `no_span`.
use Rattle.std.specs.Prelude.{List, [], ◌∷◌}
use Rattle.ir_statements.specs.Tree.{Stmt, Leaf, Block, Branch, Switch, Loop, Break, Continue, Return, Kill, Body, Done, Then, Cases, NoCase, OneCase}
use Rattle.ir_statements.specs.declared.statements.Block as b
use Rattle.ir_statements.specs.declared.statements.Block.{roll-Block}
use Rattle.ir_statements.specs.declared.statements.Located.{Located}
use Rattle.ir_statements.specs.declared.statements.Statement.{Statement}
use Rattle.ir_statements.specs.declared.statements.Statement as s
use Rattle.ir_statements.specs.declared.statements.SwitchCase.{SwitchCase, SwitchCase'}
use Rattle.case_notation.specs.Grammar.{no_span}

-- a block of these statements
unfoldable pub block_from : List Located → b.Block
block_from list = roll-Block (record { list = list })

-- a statement at `no_span`
abbrev pub placed : Statement → Located
placed x = record { statement = x; span = no_span }

unfoldable mutual
  -- the statements of a body, in order
  pub list_of : Body → List Located
  list_of Done = []
  list_of (Then x rest) = located_of x ∷ list_of rest

  -- a statement, at its span
  pub located_of : Stmt → Located
  located_of (Leaf acts x span) = record { statement = x; span = span }
  located_of (Block inner) = placed (s.Block (block_from (list_of inner)))
  located_of (Branch h accept reject) = placed (s.If h (block_from (list_of accept)) (block_from (list_of reject)))
  located_of (Switch h cases) = placed (s.Switch h (cases_of cases))
  located_of (Loop body continuing h) = placed (s.Loop (block_from (list_of body)) (block_from (list_of continuing)) h)
  located_of Break = placed s.Break
  located_of Continue = placed s.Continue
  located_of (Return h) = placed (s.Return h)
  located_of Kill = placed s.Kill

  -- the cases of a switch, in order
  pub cases_of : Cases → List SwitchCase
  cases_of NoCase = []
  cases_of (OneCase value falls inner rest) = SwitchCase' value (block_from (list_of inner)) falls ∷ cases_of rest

-- the block of a body
abbrev pub block_of : Body → b.Block
block_of body = block_from (list_of body)
