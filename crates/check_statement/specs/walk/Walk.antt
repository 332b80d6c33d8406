-- The judgement along the tree, over what is in scope: work of lemmas, cited by functions that the validator alone calls.
use Rattle.std.specs.Prelude.{ℕ, List, [], ◌++◌, Option, Result, if◌then◌else◌}
use Rattle.ir_statements.specs.Tree.{Stmt, Body, Done, Then, Cases}
use Rattle.ir_errors.specs.declared.function.FunctionError.{FunctionError}
use Rattle.naga_runs.specs.ByTree.{judge, judge_body, judge_parts, judge_stmt, judge_cases, judge_break_if}
use Rattle.naga_runs.specs.Positions.{StatementNode}
use Rattle.naga_runs.specs.PutsAndUses.{acts_of, puts_of}
use Rattle.naga_runs.specs.declared.Abilities.{Abilities}
use Rattle.check_scope.specs.Context.{Context}
use Rattle.check_flow.specs.walk.Emitted.{place}
use Rattle.check_scope.specs.walk.Place.{Sets}
use Rattle.check_scope.specs.walk.Table.{with_all}
use Rattle.naga_runs.specs.Must.{holds_continue}
use Rattle.check_statement.specs.walk.State.{State, kept_rules}

-- what a statement puts in scope itself, and what the statements of a list put
abbrev pub puts : Stmt → List ℕ
puts x = puts_of (acts_of x)

unfoldable pub body_puts : Body → List ℕ
body_puts Done = []
body_puts (Then x b) = puts x ++ body_puts b

-- what the statements of a Loop's body list put up to the first that holds a Continue
unfoldable pub puts_to_continue : Body → List ℕ
puts_to_continue Done = []
puts_to_continue (Then x b) = if holds_continue x then puts x else (puts x ++ puts_to_continue b)

-- after the body list of a Loop: its puts are in scope, and every run has put the first of them
abbrev pub behind_loop_body : Sets → Body → Sets
behind_loop_body s b = record { scope = with_all s.scope (body_puts b); must = with_all s.must (puts_to_continue b) }

module _ (context : Context) (state : State) (abilities : Abilities) (scope : Sets) where
  unfoldable pub own_answer : Stmt → Result State FunctionError
  own_answer x = judge (kept_rules context) state (record { place = place abilities scope; node = StatementNode x })

  unfoldable pub parts_answer : Stmt → Result State FunctionError
  parts_answer x = judge_parts (kept_rules context) state (place abilities scope) x

  unfoldable pub stmt_answer : Stmt → Result State FunctionError
  stmt_answer x = judge_stmt (kept_rules context) state (place abilities scope) x

  unfoldable pub body_answer : Body → Result State FunctionError
  body_answer b = judge_body (kept_rules context) state (place abilities scope) b

  unfoldable pub cases_answer : Cases → Result State FunctionError
  cases_answer cs = judge_cases (kept_rules context) state (place abilities scope) cs

  unfoldable pub break_if_answer : Option ℕ → Result State FunctionError
  break_if_answer q = judge_break_if (kept_rules context) state (place abilities scope) q
