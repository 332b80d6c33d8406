-- The trees that the judgement speaks of: that of a function's body, and, for what is judged within it, those of its
-- parts.
use Rattle.std.specs.Prelude.{ℕ, List, [], Option, None, Some, slice_get}
use Rattle.ir_module.specs.Operands.{operands_of}
use Rattle.ir_statements.specs.Tree.{Stmt, Body, Cases}
use Rattle.ir_statements.specs.View as view
use Rattle.ir_statements.specs.View.{no_operands}
use Rattle.ir_module.specs.declared.expressions.Expression.{Expression}
use Rattle.ir_module.specs.declared.functions.Function.{Function}
use Rattle.ir_statements.specs.declared.statements.Block.{Block}
use Rattle.ir_statements.specs.declared.statements.Located.{Located}
use Rattle.ir_statements.specs.declared.statements.SwitchCase.{SwitchCase}
use Rattle.check_scope.specs.Context.{Context}

abbrev pub operands_if : Option Expression → List ℕ
operands_if None = []
operands_if (Some x) = operands_of x

-- the operands of what a function's Emits emit, by handle
abbrev pub emitted_operands : Function → ℕ → List ℕ
emitted_operands fun = λ h. operands_if (slice_get fun.expressions h)

-- the tree of a function's body
abbrev pub body_of : Function → Body
body_of fun = view.body_of (emitted_operands fun) fun.body

-- the trees of its statements, blocks, lists of statements and lists of cases
module _ (context : Context) where
  abbrev pub tree_of : Located → Stmt
  tree_of x = view.tree_of (emitted_operands context.fun) x.statement x.span

  abbrev pub block_of : Block → Body
  block_of block = view.body_of (emitted_operands context.fun) block

  abbrev pub list_of : List Located → Body
  list_of list = view.list_body (emitted_operands context.fun) list

  abbrev pub cases_of : List SwitchCase → Cases
  cases_of cases = view.list_cases (emitted_operands context.fun) cases

-- the cases of a switch, for what reads their values alone
abbrev pub case_list : List SwitchCase → Cases
case_list cases = view.list_cases no_operands cases
