use Rattle.std.proofs.Common.{◌≡◌, ◌≤◌, ◌||◌, drop}
use Rattle.check_scope.specs.BodyTrees.{block_of, list_of, cases_of}
use Rattle.check_statement.specs.Ready.{IsBodyReady, AreCasesReady}
use Rattle.check_scope.specs.walk.SeenContext.{context_of}
use Rattle.check_statement.specs.walk.State.{kept}
use Rattle.check_scope.specs.walk.Table.{IsTableOf, known, scopes, shown}
use Rattle.check_statement.specs.walk.Walk.{body_puts, body_answer, cases_answer}
use Rattle.naga_runs.specs.Must.{body_holds_continue, cases_hold_continue}
use Rattle.check_scope.proofs.Columns.{PutsBefore}
use Rattle.check_body.proofs.LoopBody.{PutsOfLoop}
use Rattle.check_body.proofs.function.+walk.Given as goal

abbrev pub invariant-validate_statements-loop-located :
    goal.invariant-validate_statements-loop-located
invariant-validate_statements-loop-located l = record {
  ready : IsBodyReady (context_of l.context) (list_of (context_of l.context) (drop l.located-index l.located-items));
  faults : body_answer (context_of l.context) (kept l.table.filled l.state) l.abilities (known l.table.scope) (list_of (context_of l.context) (drop l.located-index l.located-items)) ≡ body_answer (context_of l.context) (kept l.initial.table.filled l.initial.state) l.abilities (known l.initial.table.scope) (block_of (context_of l.context) l.block);
  table : IsTableOf (context_of l.context) l.table;
  held : (l.held || body_holds_continue (list_of (context_of l.context) (drop l.located-index l.located-items))) ≡ body_holds_continue (block_of (context_of l.context) l.block);
  puts : PutsBefore l.initial.table.scope l.table.scope (body_puts (list_of (context_of l.context) (drop l.located-index l.located-items))) (body_puts (block_of (context_of l.context) l.block));
}

abbrev pub invariant-validate_loop_body-loop-located :
    goal.invariant-validate_loop_body-loop-located
invariant-validate_loop_body-loop-located l = record {
  ready : IsBodyReady (context_of l.context) (list_of (context_of l.context) (drop l.located-index l.located-items));
  faults : body_answer (context_of l.context) (kept l.table.filled l.state) l.abilities (known l.table.scope) (list_of (context_of l.context) (drop l.located-index l.located-items)) ≡ body_answer (context_of l.context) (kept l.initial.table.filled l.initial.state) l.abilities (known l.initial.table.scope) (block_of (context_of l.context) l.block);
  table : IsTableOf (context_of l.context) l.table;
  puts : PutsOfLoop l.initial.table.scope l.table.scope l.home (list_of (context_of l.context) (drop l.located-index l.located-items)) (block_of (context_of l.context) l.block);
}

abbrev pub invariant-validate_cases-loop-case : goal.invariant-validate_cases-loop-case
invariant-validate_cases-loop-case l = record {
  ready : AreCasesReady (context_of l.context) (cases_of (context_of l.context) (drop l.case-index l.cases));
  faults : cases_answer (context_of l.context) (kept l.table.filled l.state) l.abilities (known l.table.scope) (cases_of (context_of l.context) (drop l.case-index l.cases)) ≡ cases_answer (context_of l.context) (kept l.initial.table.filled l.initial.state) l.abilities (known l.initial.table.scope) (cases_of (context_of l.context) l.cases);
  table : IsTableOf (context_of l.context) l.table;
  scope : shown l.table.scope ≡ shown l.initial.table.scope;
  taken : scopes l.initial.table.scope ≤ scopes l.table.scope;
  held : (l.held || cases_hold_continue (cases_of (context_of l.context) (drop l.case-index l.cases))) ≡ cases_hold_continue (cases_of (context_of l.context) l.cases);
}
